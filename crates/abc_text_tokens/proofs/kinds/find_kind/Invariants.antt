use Rattle.std.proofs.Common.{◌≡◌, map, drop}
use Rattle.abc_text_lines.specs.Wordlines.{lookup}
use Rattle.abc_text_tokens.specs.Names.{without_blanks}
use Rattle.abc_text_tokens.proofs.kinds.find_kind.Given as goal

abbrev pub invariant-loop-row : goal.invariant-loop-row
invariant-loop-row g l = lookup (map without_blanks (drop l.row-index l.rows)) l.word ≡ lookup (map without_blanks l.rows) l.word

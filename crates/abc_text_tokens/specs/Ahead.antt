-- Lines that were met ahead.
use Rattle.std.specs.Prelude.{◌+◌, List, [], ◌∷◌, length, Some, None}
use Rattle.std.specs.declared.option.Option.{Option}
use Rattle.abc_text_tokens.specs.Cursor.{Comes, raws_after}
use Rattle.abc_text_tokens.specs.declared.line.Line.{Line}

-- Of some lines, the first is the one after a line, if there is that, and each is the one after the line before it.
abbrev pub FollowsLine : Option Line → List Line → Type 0
FollowsLine first [] = Unit {0}
FollowsLine None (line ∷ lines) = ⊥
FollowsLine (Some first) (line ∷ lines) = Comes (raws_after first) (first.number + 1) (length first.rest.now) (Some line) × FollowsLine (Some line) lines

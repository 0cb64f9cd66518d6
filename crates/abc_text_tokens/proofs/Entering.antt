-- One entry more.
use Rattle.std.proofs.Common.{List, [], ◌∷◌, ◌++◌, arith}
use Rattle.std.proofs.lemmas.List.Elements.{All-append, All-cons}
use Rattle.abc_text_tokens.specs.declared.entries.Entry.{Entry}
use Rattle.abc_text_tokens.specs.Entries.{AreRight, IsRight}

alone : (entry : Entry) → IsRight entry → AreRight (entry ∷ [])
alone entry right = All-cons IsRight entry [] right (λ k d lt. absurd (omega (arith, lt)))

pub one_more : (entries : List Entry) (entry : Entry) → AreRight entries → IsRight entry → AreRight (entries ++ entry ∷ [])
one_more entries entry all right = All-append IsRight entries (entry ∷ []) all (alone entry right)

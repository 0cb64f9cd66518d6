-- The labels that lines set, one line further.
use Rattle.std.proofs.Common.{◌≡◌, ℕ, ◌+◌, Bool, true, false, cond, List, ◌∷◌, Some, None, refl, sym, ap, ◌∙◌}
use Rattle.std.specs.Str.{bytes_eq}
use Rattle.std.specs.declared.option.Option.{Option}
use Rattle.abc_text_lines.specs.declared.word.Word.TheVariants as words
use Rattle.abc_text_lines.specs.Texts.{Raw}
use Rattle.abc_text_tokens.specs.Names.{either_of}
use Rattle.abc_text_tokens.specs.Labels.{among_set}

pub either_none : (o : Option ℕ) → either_of o None ≡ o
either_none (Some n) = refl
either_none None = refl

either_assoc : (a b c : Option ℕ) → either_of (either_of a b) c ≡ either_of a (either_of b c)
either_assoc (Some n) b c = refl
either_assoc None b c = refl

either_cond : (t : Bool) (n : ℕ) (o : Option ℕ) → either_of (cond t (Some n) None) o ≡ cond t (Some n) o
either_cond true n o = refl
either_cond false n o = refl

pub set_here : (raw : Raw) (raws : List Raw) (n : ℕ) (name : List ℕ) (old new : Option ℕ) → raw.word ≡ words.Label → new ≡ either_of old (cond (bytes_eq raw.name name) (Some n) None) → either_of new (among_set n raws name) ≡ either_of old (among_set n (raw ∷ raws) name)
set_here raw raws n name old new is e =
    let w = is in
    ap (λ (o : Option ℕ). either_of o (among_set n raws name)) e
    ∙ either_assoc old (cond (bytes_eq raw.name name) (Some n) None) (among_set n raws name)
    ∙ ap (either_of old) (either_cond (bytes_eq raw.name name) n (among_set n raws name) ∙ sym (rw w refl))

pub counted_here : (raw : Raw) (raws : List Raw) (op n : ℕ) (name : List ℕ) → raw.word ≡ words.Instruction op → among_set n (raw ∷ raws) name ≡ among_set (n + 1) raws name
counted_here raw raws op n name is = let w = is in rw w refl

pub ends_here : (raw : Raw) (raws : List Raw) (n : ℕ) (name : List ℕ) → raw.word ≡ words.Body → among_set n (raw ∷ raws) name ≡ None
ends_here raw raws n name is = let w = is in rw w refl

-- Names and values in turn on a stack, a value above its name: so many pairs, the deepest first.
use Rattle.std.specs.Prelude.{ℕ, zero, suc, ◌+◌, ◌*◌, List, [], ◌∷◌, get_or, set}
use Rattle.abc_heap_values.specs.declared.values.Span.{Span}
use Rattle.abc_heap_values.specs.declared.values.Value.{Value}
use Rattle.abc_heap_values.specs.declared.values.Value.TheVariants.{Undefined, Null, Num, Bool as Truth, Text, Space, Obj}
use Rattle.abc_frames.specs.Frame.{Frames, with_newest}
use Rattle.abc_meaning.specs.Ops.{spells}
use Rattle.abc_meaning.specs.Setting.{Setting}
use Rattle.abc_meaning.specs.World.{Run, pure, ◌>>=◌}

-- the name and the value of pair n, where the top pair is pair 0
abbrev pub pair_name : ℕ → List Value → Value
pair_name n vs = get_or vs (2 * n + 1) Undefined

abbrev pub value_at : ℕ → List Value → Value
value_at n vs = get_or vs (2 * n) Undefined

abbrev pub pairs_of : ℕ → List Value → List Value
pairs_of zero vs = []
pairs_of (suc n) vs = pair_name n vs ∷ value_at n vs ∷ pairs_of n vs

-- ---- each name in turn becomes its text

abbrev pub with_name : ℕ → Span → List Value → List Value
with_name n t vs = set vs (2 * n + 1) (Text t)

abbrev pub pair_texts : Setting → ℕ → List Value → Run (List Value)
pair_texts p zero vs = pure vs
pair_texts p (suc n) vs = spells p (pair_name n vs) >>= λ t. pair_texts p n (with_name n t vs)

-- ---- what then stands there

abbrev pub pair_text : Value → Span
pair_text (Text t) = t
pair_text Undefined = record { part = 0; start = 0; len = 0 }
pair_text Null = record { part = 0; start = 0; len = 0 }
pair_text (Num n) = record { part = 0; start = 0; len = 0 }
pair_text (Truth b) = record { part = 0; start = 0; len = 0 }
pair_text (Space n) = record { part = 0; start = 0; len = 0 }
pair_text (Obj o) = record { part = 0; start = 0; len = 0 }

abbrev pub pairs_at : ℕ → List Value → List (Span × Value)
pairs_at zero vs = []
pairs_at (suc n) vs = (pair_text (pair_name n vs), value_at n vs) ∷ pairs_at n vs

-- ---- frames of which only the operands of the newest changed

abbrev pub with_operands : List Value → Frames → Frames
with_operands vs q = with_newest (λ f. record f { stack = vs }) q

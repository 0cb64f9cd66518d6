-- What the tests of an instruction say, and where it finds its values, by the values that its row takes.
use Rattle.std.proofs.Common.{◌≡◌, ℕ, ◌+◌, ◌-◌, ◌≤◌, List, [], ◌∷◌, length, drop, take, reverse, true, nat_le, get_or, refl, ap, ◌∙◌, arith}
use Rattle.std.proofs.lemmas.Bool.{and_parts, leb-true}
use Rattle.abc_meaning.specs.At.{ActCase}
use Rattle.abc_heap_values.specs.declared.values.Value.{Value}
use Rattle.abc_heap_values.specs.declared.values.Value.TheVariants.{Undefined}
use Rattle.abc_meaning.specs.Tests.{all_meet, at_frame, can_run, has_scope, name_values, parts_count, values_of, walks_number}
use Rattle.abc_verify_typing.specs.Instructions.{operand}
use Rattle.abc_frames.specs.Frame.{Frame, after_drop}
use Rattle.abc_verify_typing.specs.Effects.{Here, args, depth, needs}
use Rattle.abc_verify_typing.specs.Rules.{has_form, has_locals, in_table, is_here, may_pop, may_push}
use Rattle.abc_meaning.specs.Setting.{Setting}
use Rattle.abc_meaning.specs.World.{World}

-- ---- the tests

pub record Tested (p : Setting) (h : Here) (f : Frame) (w : World) : Type 0 where
  pub table : in_table h.file h.method h.row.operand (operand h.instr) ≡ true
  pub form : has_form h.file h.row.operand (operand h.instr) ≡ true
  pub there : depth h ≤ length f.stack
  pub room : length f.stack - depth h + length h.row.gives ≤ h.method.max_stack
  pub pop : may_pop h.row.scoping (length f.scopes) ≡ true
  pub push : may_push h.row.scoping (length f.scopes) h.method.scope_size ≡ true
  pub locals : has_locals h.row.locals h.instr (length f.locals) ≡ true
  pub walks : walks_number h.row.locals h.instr f.locals ≡ true
  pub scope : has_scope h.row.operand h.instr f.scopes ≡ true
  pub site : is_here h.method h.row.site ≡ true
  pub meets : all_meet p h w (needs h) (drop (args h) f.stack) ≡ true

pub tested_is : (p : Setting) (h : Here) (f : Frame) (w : World) → can_run p h f w ≡ true → Tested p h f w
tested_is p h f w t =
    let a = and_parts _ (all_meet p h w (needs h) (drop (args h) f.stack)) t in
    let b = and_parts _ (is_here h.method h.row.site) a.0 in
    let c = and_parts _ (has_scope h.row.operand h.instr f.scopes) b.0 in
    let d = and_parts _ (walks_number h.row.locals h.instr f.locals) c.0 in
    let e = and_parts _ (has_locals h.row.locals h.instr (length f.locals)) d.0 in
    let g = and_parts _ (may_push h.row.scoping (length f.scopes) h.method.scope_size) e.0 in
    let i = and_parts _ (may_pop h.row.scoping (length f.scopes)) g.0 in
    let j = and_parts _ (nat_le (length f.stack - depth h + length h.row.gives) h.method.max_stack) i.0 in
    let k = and_parts _ (nat_le (depth h) (length f.stack)) j.0 in
    let l = and_parts (in_table h.file h.method h.row.operand (operand h.instr)) (has_form h.file h.row.operand (operand h.instr)) k.0 in
    record {
      table = l.0;
      form = l.1;
      there = leb-true _ _ k.1;
      room = leb-true _ _ j.1;
      pop = i.1;
      push = g.1;
      locals = e.1;
      walks = d.1;
      scope = c.1;
      site = b.1;
      meets = a.1;
    }

-- ---- values on a stack that is long enough

pub first_there : (vs : List Value) → 1 ≤ length vs → vs ≡ get_or vs 0 Undefined ∷ drop 1 vs
first_there [] b = absurd (omega arith)
first_there (v ∷ vs) b = refl

pub two_there : (vs : List Value) → 2 ≤ length vs → vs ≡ get_or vs 0 Undefined ∷ get_or vs 1 Undefined ∷ drop 2 vs
two_there [] b = absurd (omega arith)
two_there (v ∷ []) b = absurd (omega arith)
two_there (v ∷ u ∷ vs) b = refl

-- no arguments
pub no_args : (h : Here) → h.row.args ≡ 0 → args h ≡ 0
no_args h e = rw e (omega arith)

-- ---- where an instruction without arguments finds its values

pub at_shape : (p : Setting) (h : Here) (f : Frame) (n : ℕ) (vs ps : List Value) → args h ≡ 0 → depth h ≡ n → values_of h.row.takes (parts_count h) f.stack ≡ vs → name_values h.row.takes (parts_count h) f.stack ≡ ps → at_frame p h f ≡ record { setting = p; here = h; frame = f; rest = after_drop n f; args = []; values = vs; parts = ps }
at_shape p h f n vs ps a d v q =
    let mk : ℕ → ℕ → ActCase = λ k m. record { setting = p; here = h; frame = f; rest = record f { stack = drop m f.stack }; args = reverse (take k f.stack); values = values_of h.row.takes (parts_count h) (drop k f.stack); parts = name_values h.row.takes (parts_count h) (drop k f.stack) } in
    let rest : List Value → List Value → ActCase = λ xs ys. record { setting = p; here = h; frame = f; rest = after_drop n f; args = []; values = xs; parts = ys } in
    ap (λ (k : ℕ). mk k (depth h)) a ∙ ap (λ (m : ℕ). mk 0 m) d ∙ ap (λ (xs : List Value). rest xs (name_values h.row.takes (parts_count h) f.stack)) v ∙ ap (λ (ys : List Value). rest vs ys) q

-- The opcode of an instruction tells its form.
use Rattle.std.proofs.Common.{◌≡◌, ℕ, ℤ, refl, sym, ap, ◌∙◌}
use Rattle.std.proofs.lemmas.Int.{to_z-of_z}
use mir.Syntax.{w8}
use mir.Val.{SFits, of_z, to_z}
use Rattle.abc_run_dispatch.proofs.Grouped.{form_is}
use Rattle.abc_run_dispatch.specs.Numbers.{first_small_number}
use Rattle.abc_run_values.specs.Spelled.{IsSpelled}
use Rattle.abc_verify_typing.specs.Instructions.{opcode, second_local}
use Rattle.abc_file_types.specs.Opcodes.{form_of}
use Rattle.abc_file_types.specs.declared.code.Instr.{Instr}
use Rattle.abc_file_types.specs.declared.code.Instr.TheVariants.{Branch, Byte, Debug, One, Plain, ScopeObject, Short, Switch, Two}
use Rattle.abc_file_types.specs.declared.opcodes.Form.{Form}
use Rattle.abc_file_types.specs.declared.opcodes.Form.TheVariants as forms

abbrev form : Instr → Form
form (Plain op) = forms.Plain
form (One op n) = forms.One
form (Two op n count) = forms.Two
form (Branch op target) = forms.Branch
form (Switch default cases) = forms.Switch
form (Byte n) = forms.Byte
form (Short n) = forms.Short
form (ScopeObject n) = forms.ScopeObject
form (Debug kind name reg extra) = forms.Debug

-- an instruction of its parts; of the other forms, `i`
abbrev of_parts : Form → Instr → ℕ → ℕ → ℕ → Instr
of_parts forms.Plain i op n count = Plain op
of_parts forms.One i op n count = One op n
of_parts forms.Two i op n count = Two op n count
of_parts forms.Branch i op n count = Branch op n
of_parts f i op n count = i

form_told : (i : Instr) → IsSpelled i → form_of (opcode i) ≡ form i
form_told (Plain op) h = form_is op forms.Plain h.is
form_told (One op n) h = form_is op forms.One h.0.is
form_told (Two op n count) h = form_is op forms.Two h.0.is
form_told (Branch op target) h = form_is op forms.Branch h.is
form_told (Switch default cases) h = refl
form_told (Byte n) h = refl
form_told (Short n) h = refl
form_told (ScopeObject n) h = refl
form_told (Debug kind name reg extra) h = refl

parted : (i : Instr) → i ≡ of_parts (form i) i (opcode i) (first_small_number i) (second_local i)
parted (Plain op) = refl
parted (One op n) = refl
parted (Two op n count) = refl
parted (Branch op target) = refl
parted (Switch default cases) = refl
parted (Byte n) = refl
parted (Short n) = refl
parted (ScopeObject n) = refl
parted (Debug kind name reg extra) = refl

-- the opcode is `k`, which has the form `f`
told : (f : Form) (i : Instr) (op k : ℕ) → IsSpelled i → op ≡ opcode i → op ≡ k → form_of k ≡ f → i ≡ of_parts f i op (first_small_number i) (second_local i)
told f i op k h own is has =
    parted i
    ∙ ap (λ (x : Form). of_parts x i (opcode i) (first_small_number i) (second_local i)) (sym (form_told i h) ∙ ap form_of (sym own ∙ is) ∙ has)
    ∙ ap (λ (x : ℕ). of_parts f i x (first_small_number i) (second_local i)) (sym own)

module _ (i : Instr) (op k : ℕ) (h : IsSpelled i) (own : op ≡ opcode i) (is : op ≡ k) where
  pub alone_told : form_of k ≡ forms.Plain → i ≡ Plain op
  alone_told has = told forms.Plain i op k h own is has

  pub numbered_told : (n : ℕ) → form_of k ≡ forms.One → n ≡ first_small_number i → i ≡ One op n
  numbered_told n has e = told forms.One i op k h own is has ∙ ap (λ (x : ℕ). One op x) (sym e)

  pub paired_told : (n count : ℕ) → form_of k ≡ forms.Two → n ≡ first_small_number i → count ≡ second_local i → i ≡ Two op n count
  paired_told n count has e f = told forms.Two i op k h own is has ∙ ap (λ (x : ℕ). Two op x (second_local i)) (sym e) ∙ ap (λ (x : ℕ). Two op n x) (sym f)

  pub branch_told : (target : ℕ) → form_of k ≡ forms.Branch → target ≡ first_small_number i → i ≡ Branch op target
  branch_told target has e = told forms.Branch i op k h own is has ∙ ap (λ (x : ℕ). Branch op x) (sym e)

-- as the machine holds a byte
pub byte_held : (i : Instr) (n : ℤ) → SFits w8 n → i ≡ Byte n → i ≡ Byte (to_z w8 (of_z w8 n))
byte_held i n fits e = e ∙ ap (λ (z : ℤ). Byte z) (sym (to_z-of_z w8 n fits))

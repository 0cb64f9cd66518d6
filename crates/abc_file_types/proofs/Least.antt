-- Canonical bytes of numbers that are taken modulo a power of two.
use Rattle.std.proofs.Common.{◌≡◌, ℕ, ◌%◌, ◌^◌, ◌≤◌, List, length, refl, sym, ap, subst, ◌∙◌, arith}
use Rattle.std.specs.Int.{w16, w32, cast_signed, cast_unsigned}
use Rattle.std.proofs.lemmas.Int.{of_z-to_z}
use Rattle.abc_file_types.proofs.Canon.{number-canonical}
use Rattle.abc_file_types.proofs.Lesser.{Under, number_least, under_16, under_32}
use Rattle.abc_base.proofs.Spelling.{number_fits, number_grows}
use Rattle.abc_base.specs.Numbers.{number_bytes}
use Rattle.abc_file_types.specs.Canonical.{s32_bytes, IsCanonical, NoGreater}
use Rattle.abc_file_types.specs.Numbers.{number, s32, u32}
use Rattle.abc_file_types.specs.Part.{Part, image}

-- what a smaller x gives just as well
pub record Least {A B : Type 0} (f : A → B) (p : Part A) (cp : A → List ℕ) (h : B → List ℕ) (x y : A) (b : List ℕ) : Type 0 where
  pub spelled : p.spells y (cp y)
  pub same : f y ≡ f x
  pub short : length (cp y) ≤ length (cp x)
  pub least : length (cp y) ≡ length b → NoGreater (cp y) b
  pub bytes : cp y ≡ h (f x)

pub image-least-canonical : {A B : Type 0} (f : A → B) (p : Part A) (cp : A → List ℕ) (g : A → A) (h : B → List ℕ) → IsCanonical p cp → ((x : A) (b : List ℕ) → p.spells x b → Least f p cp h x (g x) b) → IsCanonical (image f p) h
image-least-canonical f p cp g h kp least = record {
  spelled = λ y b s.
      let l = least s.0 b s.1 in
      let e : cp (g s.0) ≡ h y = l.bytes ∙ ap h (sym s.2) in
      (g s.0, subst (λ (c : List ℕ). p.spells (g s.0) c) e l.spelled, s.2 ∙ sym l.same);
  shortest = λ y b s.
      let l = least s.0 b s.1 in
      let e : length (cp (g s.0)) ≡ length (h y) = ap length (l.bytes ∙ ap h (sym s.2)) in
      let k = kp.shortest s.0 b s.1 in
      omega (arith, l.short);
  least = λ y b s len.
      let l = least s.0 b s.1 in
      let e : cp (g s.0) ≡ h y = l.bytes ∙ ap h (sym s.2) in
      subst (λ (c : List ℕ). NoGreater c b) e (l.least (ap length e ∙ len));
}

pub u32-canonical : IsCanonical u32 number_bytes
unfolding u32
u32-canonical = image-least-canonical (λ x. x % 2 ^ 32) number number_bytes (λ x. x % 2 ^ 32) number_bytes number-canonical
    (λ x b s.
    record { spelled = number_fits (x % 2 ^ 32) (omega arith); same = omega arith; short = number_grows (x % 2 ^ 32) x (omega arith); least = number_least x (x % 2 ^ 32) b s (omega arith) (under_32 x); bytes = refl })

pub s32-canonical : IsCanonical s32 s32_bytes
unfolding s32 s32_bytes
s32-canonical = image-least-canonical (λ x. cast_signed w32 (x % 2 ^ 32)) number number_bytes (λ x. x % 2 ^ 32) (λ z. number_bytes (cast_unsigned w32 z)) number-canonical
    (λ x b s.
    let twice : x % 2 ^ 32 % 2 ^ 32 ≡ x % 2 ^ 32 = omega arith in
    record { spelled = number_fits (x % 2 ^ 32) (omega arith); same = ap (cast_signed w32) twice; short = number_grows (x % 2 ^ 32) x (omega arith); least = number_least x (x % 2 ^ 32) b s (omega arith) (under_32 x); bytes = ap number_bytes (sym (of_z-to_z w32 (x % 2 ^ 32) (omega arith))) })

-- a u32 whose low 16 bits are signed
pub short-canonical : IsCanonical (image (λ x. cast_signed w16 (x % 65536)) u32) (λ z. number_bytes (cast_unsigned w16 z))
unfolding u32
short-canonical = image-least-canonical (λ x. cast_signed w16 (x % 65536)) u32 number_bytes (λ x. x % 65536) (λ z. number_bytes (cast_unsigned w16 z)) u32-canonical
    (λ x b s.
    let twice : x % 65536 % 65536 ≡ x % 65536 = omega arith in
    let small : x % 65536 ≡ x % 65536 % 2 ^ 32 = omega arith in
    let low : s.0 % 65536 ≡ x % 65536 = omega (arith, s.2) in
    let under : Under 5 (x % 65536) s.0 = subst (λ (y : ℕ). Under 5 y s.0) low (under_16 s.0) in
    record { spelled = (x % 65536, number_fits (x % 65536) (omega arith), small); same = ap (cast_signed w16) twice; short = number_grows (x % 65536) x (omega arith); least = number_least s.0 (x % 65536) b s.1 (omega (arith, low)) under; bytes = ap number_bytes (sym (of_z-to_z w16 (x % 65536) (omega arith))) })

use Rattle.std.proofs.lemmas.Bool.{ltb-true, lt-ltb}
use Rattle.std.specs.Prelude.{ℕ, List}
use Rattle.abc_file_types.specs.Canonical.{IsCanonical}
use Rattle.abc_file_types.specs.Law.{Exact}
use Rattle.abc_file_types.specs.Numbers.{u30, u32, s32}
use Rattle.abc_file_types.specs.Part.{Part}
use Rattle.abc_file_types.proofs.Canon.{u30-canonical, u8-canonical}
use Rattle.abc_file_types.proofs.Determined.{determined}
use Rattle.abc_file_types.proofs.Fixed.{s24-canonical, u16-canonical}
use Rattle.abc_file_types.proofs.Least.{s32-canonical, u32-canonical}
use Rattle.abc_file_types.proofs.Numbers.{s24-exact, s32-exact, u16-exact, u30-exact, u32-exact, u8-exact}
use Rattle.abc_varint.specs.Laws.{IsNumberForm}
use Rattle.abc_varint.proofs.laws.numbers_law.Goals as goal

form : {A : Type 0} (p : Part A) (f : A → List ℕ) → Exact p → IsCanonical p f → IsNumberForm p f
form p f exact canonical = record { exact = exact; determined = determined p exact; shortest = canonical }

pub returns-clause-u30 : goal.returns-clause-u30
unfolding u30
returns-clause-u30 c = λ x b. ((λ s. (s.0, ltb-true x 1073741824 s.1)), (λ s. (s.0, lt-ltb x 1073741824 s.1)))

pub returns-clause-u32 : goal.returns-clause-u32
unfolding u32
returns-clause-u32 c = λ x b. ((λ s. s), (λ s. s))

pub returns-clause-s32 : goal.returns-clause-s32
unfolding s32
returns-clause-s32 c = λ z b. ((λ s. s), (λ s. s))

pub returns-clause-form_of_u30 : goal.returns-clause-form_of_u30
returns-clause-form_of_u30 c = form _ _ u30-exact u30-canonical

pub returns-clause-form_of_u32 : goal.returns-clause-form_of_u32
returns-clause-form_of_u32 c = form _ _ u32-exact u32-canonical

pub returns-clause-form_of_s32 : goal.returns-clause-form_of_s32
returns-clause-form_of_s32 c = form _ _ s32-exact s32-canonical

pub returns-clause-form_of_u8 : goal.returns-clause-form_of_u8
returns-clause-form_of_u8 c = form _ _ u8-exact u8-canonical

pub returns-clause-form_of_u16 : goal.returns-clause-form_of_u16
returns-clause-form_of_u16 c = form _ _ u16-exact u16-canonical

pub returns-clause-form_of_s24 : goal.returns-clause-form_of_s24
returns-clause-form_of_s24 c = form _ _ s24-exact s24-canonical

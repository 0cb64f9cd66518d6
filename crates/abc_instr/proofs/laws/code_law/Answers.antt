use Rattle.std.proofs.Common.{◌≡◌, ℕ, ◌<◌, ◌^◌, List, length, refl, subst, sym}
use Rattle.std.proofs.lemmas.Bool.{ltb-true, lt-ltb}
use Rattle.abc_base.specs.Numbers.{SpellsU30}
use Rattle.abc_file_types.specs.Numbers.{u30}
use Rattle.abc_file_types.proofs.Determined.{determined}
use Rattle.abc_file_types.specs.declared.instructions.Code.{Code}
use Rattle.abc_file_types.specs.Code.{SpellsCode, code, code_body}
use Rattle.abc_file_types.specs.Instructions.{code_length}
use Rattle.abc_file_types.proofs.CodeExact.{code-exact}
use Rattle.abc_file_types.proofs.CodeParts.{instruction_place-exact}
use Rattle.abc_file_types.proofs.CodeShortest.{code_listing-canonical, listing_ready, ready_spelled}
use Rattle.abc_file_types.specs.CodeBytes.{code_bytes}
use Rattle.abc_instr.specs.Laws.{SpellsWithLength}
use Rattle.abc_instr.proofs.laws.code_law.Goals as goal

there : (c : Code) (b : List ℕ) → code.spells c b → SpellsWithLength c b
unfolding code code_body code_length u30
there c b s =
    let n = s.0.0 in
    let t = s.1 in
    let few : n ≡ length t.1 = sym t.4.1 in
    record {
      front = t.0;
      body = t.1;
      parts = t.2;
      count = subst (λ (m : ℕ). SpellsU30 m t.0) few (t.3.0.0, ltb-true n (2 ^ 30) t.3.0.1);
      short = subst (λ (m : ℕ). m < 2 ^ 23) few (ltb-true n (2 ^ 23) t.3.1);
      spelled = subst (λ (d : Code). SpellsCode d t.1) (sym s.2) t.4.0;
    }

back : (c : Code) (b : List ℕ) → SpellsWithLength c b → code.spells c b
unfolding code code_body code_length u30
back c b s = (
  (length s.body, c),
  (s.front, s.body, s.parts, ((s.count.0, lt-ltb (length s.body) (2 ^ 30) s.count.1), lt-ltb (length s.body) (2 ^ 23) s.short), (s.spelled, refl)),
  refl,
)

pub returns : goal.returns
returns c = record {
  spelled = λ d b. (there d b, back d b);
  exact = code-exact;
  place = instruction_place-exact;
  determined = determined _ code-exact;
  shortest = code_listing-canonical;
  ready = λ is. ((λ r. (code_bytes is, ready_spelled is r)), (λ s. listing_ready is s.0 s.1));
}

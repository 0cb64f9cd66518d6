-- What the code changes where it fills an option.
use Rattle.std.proofs.Common.{◌≡◌, ℕ, Bool, true, false, cond, Option, Some, List, sym, ap}
use Rattle.std.specs.Bool.{OnTrue}
use Rattle.std.specs.Prelude.{codes}
use Rattle.abc_cli_answers.specs.declared.given.GivenRun.{GivenRun}
use Rattle.abc_cli_answers.specs.declared.given.GivenGen.{GivenGen}
use Rattle.abc_cli_answers.specs.Commands.{objects_option, frames, methods}
use Rattle.abc_cli_answers.specs.Reading.{run_with, gen_with, can_take, some_if}

filled : {A : Type 0} (f : Option ℕ → A) (r test : Bool) (n : ℕ) (new before : Option ℕ) → r ≡ test → new ≡ cond r (Some n) before → OnTrue r (some_if test (f (Some n)) ≡ Some (f new))
filled f true true n new before is after = ap (λ (o : Option ℕ). Some (f o)) (sym after)
filled f true false n new before is after = absurd cc
filled f false test n new before is after = tt

pub gen_methods : (g : GivenGen) (name : List ℕ) (n : ℕ) (r : Bool) (new : Option ℕ) → name ≡ codes "methods" → r ≡ can_take methods g.methods n → new ≡ cond r (Some n) g.methods → OnTrue r (gen_with g name n ≡ Some (record g { methods = new }))
gen_methods g name n r new named is after = rw named (filled (λ o. record g { methods = o }) r (can_take methods g.methods n) n new g.methods is after)

pub run_objects : (g : GivenRun) (name : List ℕ) (n : ℕ) (r : Bool) (new : Option ℕ) → name ≡ codes "objects" → r ≡ can_take objects_option g.objects n → new ≡ cond r (Some n) g.objects → OnTrue r (run_with g name n ≡ Some (record g { objects = new }))
run_objects g name n r new named is after = rw named (filled (λ o. record g { objects = o }) r (can_take objects_option g.objects n) n new g.objects is after)

pub run_frames : (g : GivenRun) (name : List ℕ) (n : ℕ) (r : Bool) (new : Option ℕ) → name ≡ codes "frames" → r ≡ can_take frames g.frames n → new ≡ cond r (Some n) g.frames → OnTrue r (run_with g name n ≡ Some (record g { frames = new }))
run_frames g name n r new named is after = rw named (filled (λ o. record g { frames = o }) r (can_take frames g.frames n) n new g.frames is after)

use Rattle.std.proofs.Common.{[], ◌∷◌, refl, subst, sym}
use Rattle.abc_meaning.specs.At.{goes, after_pushes}
use Rattle.abc_heap_values.specs.declared.values.Span.{Span}
use Rattle.abc_heap_values.specs.declared.values.Value.{Value}
use Rattle.abc_heap_values.specs.declared.values.Value.TheVariants.{Text}
use Rattle.abc_run_values.proofs.OtherOps.{op_08, op_2C, op_2D, op_2E, op_2F, op_31, op_62, op_63, op_F0, op_F1}
use Rattle.abc_run_values.proofs.Doing.{Does, can_at, runs_at}
use Rattle.abc_frames.specs.Frame.{newest}
use Rattle.abc_file_types.specs.declared.code.Instr.TheVariants.{One}
use Rattle.abc_run_values.proofs.numbered.run_constant.Goals as goal

pub clear_local-requires : goal.clear_local-requires
clear_local-requires g c = let d = op_08 c.args.linked.now g.out c.args.s.now c.args.n (can_at c.args.linked.now g.out c.args.s.now (λ o. One o c.args.n) c.args.op 8 c.in-8.is c.requires.0) in (d.0.ready, d.1)

pub returns-in-8 : goal.returns-in-8
returns-in-8 g c = record {
  runs = runs_at c.args.linked.now g.out c.args.s.now (λ o. One o c.args.n) c.args.op 8 0 0 _ _ c.in-8.is ((op_08 c.args.linked.now g.out c.args.s.now c.args.n (can_at c.args.linked.now g.out c.args.s.now (λ o. One o c.args.n) c.args.op 8 c.in-8.is c.requires.0)).0) c.clear_local.ensures.runs;
  limit = c.clear_local.ensures.limit;
}

pub push_value-requires : goal.push_value-requires
push_value-requires g c = let d = op_2C c.args.linked.now g.out c.args.s.now c.args.n (can_at c.args.linked.now g.out c.args.s.now (λ o. One o c.args.n) c.args.op 44 c.in-44.is c.requires.0) in d.ready

pub returns-in-44 : goal.returns-in-44
returns-in-44 g c = record {
  runs = runs_at c.args.linked.now g.out c.args.s.now (λ o. One o c.args.n) c.args.op 44 0 1 _ _ c.in-44.is (subst (λ (x : Span). Does c.args.linked.now g.out c.args.s.now (One 44 c.args.n) 0 1 (goes (after_pushes (Text x ∷ []) (newest c.args.s.now.frames)))) (sym c.string_at.ensures) (op_2C c.args.linked.now g.out c.args.s.now c.args.n (can_at c.args.linked.now g.out c.args.s.now (λ o. One o c.args.n) c.args.op 44 c.in-44.is c.requires.0))) c.push_value.ensures.runs;
  limit = c.push_value.ensures.limit;
}

pub push_value-requires-in-45 : goal.push_value-requires-in-45
push_value-requires-in-45 g c = let d = op_2D c.args.linked.now g.out c.args.s.now c.args.n (can_at c.args.linked.now g.out c.args.s.now (λ o. One o c.args.n) c.args.op 45 c.in-45.is c.requires.0) in d.ready

pub returns-in-45 : goal.returns-in-45
returns-in-45 g c = record {
  runs = runs_at c.args.linked.now g.out c.args.s.now (λ o. One o c.args.n) c.args.op 45 0 1 _ _ c.in-45.is (subst (λ (x : Value). Does c.args.linked.now g.out c.args.s.now (One 45 c.args.n) 0 1 (goes (after_pushes (x ∷ []) (newest c.args.s.now.frames)))) (sym c.int_value.ensures) (op_2D c.args.linked.now g.out c.args.s.now c.args.n (can_at c.args.linked.now g.out c.args.s.now (λ o. One o c.args.n) c.args.op 45 c.in-45.is c.requires.0))) c.push_value-in-45.ensures.runs;
  limit = c.push_value-in-45.ensures.limit;
}

pub push_value-requires-in-46 : goal.push_value-requires-in-46
push_value-requires-in-46 g c = let d = op_2E c.args.linked.now g.out c.args.s.now c.args.n (can_at c.args.linked.now g.out c.args.s.now (λ o. One o c.args.n) c.args.op 46 c.in-46.is c.requires.0) in d.ready

pub returns-in-46 : goal.returns-in-46
returns-in-46 g c = record {
  runs = runs_at c.args.linked.now g.out c.args.s.now (λ o. One o c.args.n) c.args.op 46 0 1 _ _ c.in-46.is (subst (λ (x : Value). Does c.args.linked.now g.out c.args.s.now (One 46 c.args.n) 0 1 (goes (after_pushes (x ∷ []) (newest c.args.s.now.frames)))) (sym c.uint_value.ensures) (op_2E c.args.linked.now g.out c.args.s.now c.args.n (can_at c.args.linked.now g.out c.args.s.now (λ o. One o c.args.n) c.args.op 46 c.in-46.is c.requires.0))) c.push_value-in-46.ensures.runs;
  limit = c.push_value-in-46.ensures.limit;
}

pub returns-in-47 : goal.returns-in-47
returns-in-47 g c = record {
  runs = runs_at c.args.linked.now g.out c.args.s.now (λ o. One o c.args.n) c.args.op 47 0 1 _ _ c.in-47.is (op_2F c.args.linked.now g.out c.args.s.now c.args.n (can_at c.args.linked.now g.out c.args.s.now (λ o. One o c.args.n) c.args.op 47 c.in-47.is c.requires.0)) refl;
  limit = refl;
}

pub push_value-requires-in-49 : goal.push_value-requires-in-49
push_value-requires-in-49 g c = let d = op_31 c.args.linked.now g.out c.args.s.now c.args.n (can_at c.args.linked.now g.out c.args.s.now (λ o. One o c.args.n) c.args.op 49 c.in-49.is c.requires.0) in d.ready

pub returns-in-49 : goal.returns-in-49
returns-in-49 g c = record {
  runs = runs_at c.args.linked.now g.out c.args.s.now (λ o. One o c.args.n) c.args.op 49 0 1 _ _ c.in-49.is (op_31 c.args.linked.now g.out c.args.s.now c.args.n (can_at c.args.linked.now g.out c.args.s.now (λ o. One o c.args.n) c.args.op 49 c.in-49.is c.requires.0)) c.push_value-in-49.ensures.runs;
  limit = c.push_value-in-49.ensures.limit;
}

pub read_local-requires : goal.read_local-requires
read_local-requires g c = let d = op_62 c.args.linked.now g.out c.args.s.now c.args.n (can_at c.args.linked.now g.out c.args.s.now (λ o. One o c.args.n) c.args.op 98 c.in-98.is c.requires.0) in (d.0.ready, d.1)

pub returns-in-98 : goal.returns-in-98
returns-in-98 g c = record {
  runs = runs_at c.args.linked.now g.out c.args.s.now (λ o. One o c.args.n) c.args.op 98 0 1 _ _ c.in-98.is ((op_62 c.args.linked.now g.out c.args.s.now c.args.n (can_at c.args.linked.now g.out c.args.s.now (λ o. One o c.args.n) c.args.op 98 c.in-98.is c.requires.0)).0) c.read_local.ensures.runs;
  limit = c.read_local.ensures.limit;
}

pub take_local-requires : goal.take_local-requires
take_local-requires g c = let d = op_63 c.args.linked.now g.out c.args.s.now c.args.n (can_at c.args.linked.now g.out c.args.s.now (λ o. One o c.args.n) c.args.op 99 c.in-99.is c.requires.0) in (d.0.ready, d.1)

pub returns-in-99 : goal.returns-in-99
returns-in-99 g c = record {
  runs = runs_at c.args.linked.now g.out c.args.s.now (λ o. One o c.args.n) c.args.op 99 1 0 _ _ c.in-99.is ((op_63 c.args.linked.now g.out c.args.s.now c.args.n (can_at c.args.linked.now g.out c.args.s.now (λ o. One o c.args.n) c.args.op 99 c.in-99.is c.requires.0)).0) c.take_local.ensures.runs;
  limit = c.take_local.ensures.limit;
}

pub step_on-requires : goal.step_on-requires
step_on-requires g c = let d = op_F0 c.args.linked.now g.out c.args.s.now c.args.n (can_at c.args.linked.now g.out c.args.s.now (λ o. One o c.args.n) c.args.op 240 c.in-240.is c.requires.0) in d.ready

pub returns-in-240 : goal.returns-in-240
returns-in-240 g c = record {
  runs = runs_at c.args.linked.now g.out c.args.s.now (λ o. One o c.args.n) c.args.op 240 0 0 _ _ c.in-240.is (op_F0 c.args.linked.now g.out c.args.s.now c.args.n (can_at c.args.linked.now g.out c.args.s.now (λ o. One o c.args.n) c.args.op 240 c.in-240.is c.requires.0)) c.step_on.ensures.runs;
  limit = c.step_on.ensures.limit;
}

pub step_on-requires-in-241 : goal.step_on-requires-in-241
step_on-requires-in-241 g c = let d = op_F1 c.args.linked.now g.out c.args.s.now c.args.n (can_at c.args.linked.now g.out c.args.s.now (λ o. One o c.args.n) c.args.op 241 c.in-241.is c.requires.0) in d.ready

pub returns-in-241 : goal.returns-in-241
returns-in-241 g c = record {
  runs = runs_at c.args.linked.now g.out c.args.s.now (λ o. One o c.args.n) c.args.op 241 0 0 _ _ c.in-241.is (op_F1 c.args.linked.now g.out c.args.s.now c.args.n (can_at c.args.linked.now g.out c.args.s.now (λ o. One o c.args.n) c.args.op 241 c.in-241.is c.requires.0)) c.step_on-in-241.ensures.runs;
  limit = c.step_on-in-241.ensures.limit;
}

use mir.Syntax.{w16, w8}
use mir.Val.{SFits, of_z, to_z}
use Rattle.std.proofs.Common.{◌∙◌, ap, arith, List, ℕ, ℤ, rules, sym}
use Rattle.std.proofs.lemmas.Int.{ints, to_z-of_z}
use Rattle.abc_run_dispatch.proofs.Dispatched.{can_as, dispatches_as, dispatches_run}
use Rattle.abc_run_dispatch.proofs.Led.{run_as}
use Rattle.abc_run_dispatch.proofs.Told.{byte_held}
use Rattle.abc_file_types.specs.declared.code.Instr.TheVariants.{Branch, Byte, Debug, One, Plain, ScopeObject, Short, Switch, Two}
use Rattle.abc_run_dispatch.proofs.dispatch.run_other.Goals as goal

pub run_rare_alone-requires : goal.run_rare_alone-requires
run_rare_alone-requires g c = can_as c.args.linked.now g.out c.args.s.now c.args.instr.now (Plain c.in-Plain.op) _ c.in-Plain.is c.requires

pub returns-in-Plain : goal.returns-in-Plain
returns-in-Plain g c = dispatches_as c.args.linked.now g.out c.args.s.now c.args.instr.now (Plain c.in-Plain.op) _ _ _ c.in-Plain.is c.run_rare_alone.ensures

pub run_rare_numbered-requires : goal.run_rare_numbered-requires
run_rare_numbered-requires g c = can_as c.args.linked.now g.out c.args.s.now c.args.instr.now (One c.in-One.op c.in-One.n) _ c.in-One.is c.requires

pub returns-in-One : goal.returns-in-One
returns-in-One g c = dispatches_as c.args.linked.now g.out c.args.s.now c.args.instr.now (One c.in-One.op c.in-One.n) _ _ _ c.in-One.is c.run_rare_numbered.ensures

pub run_paired-requires : goal.run_paired-requires
run_paired-requires g c = can_as c.args.linked.now g.out c.args.s.now c.args.instr.now (Two c.in-Two.op c.in-Two.n c.in-Two.count) _ c.in-Two.is c.requires

pub returns-in-Two : goal.returns-in-Two
returns-in-Two g c = dispatches_as c.args.linked.now g.out c.args.s.now c.args.instr.now (Two c.in-Two.op c.in-Two.n c.in-Two.count) _ _ _ c.in-Two.is c.run_paired.ensures

pub run_rare_branch-requires : goal.run_rare_branch-requires
run_rare_branch-requires g c = can_as c.args.linked.now g.out c.args.s.now c.args.instr.now (Branch c.in-Branch.op c.in-Branch.target) _ c.in-Branch.is c.requires

pub returns-in-Branch : goal.returns-in-Branch
returns-in-Branch g c = dispatches_as c.args.linked.now g.out c.args.s.now c.args.instr.now (Branch c.in-Branch.op c.in-Branch.target) _ _ _ c.in-Branch.is c.run_rare_branch.ensures

pub run_switch-requires : goal.run_switch-requires
run_switch-requires g c = run_as c.args.linked.now g.out c.args.s.now c.args.instr.now (Switch c.in-Switch.default c.as_slice.result.now) (c.in-Switch.is ∙ ap (λ (ts : List ℕ). Switch c.in-Switch.default ts) (sym c.as_slice.ensures)) c.requires.run

pub returns-in-Switch : goal.returns-in-Switch
returns-in-Switch g c = dispatches_as c.args.linked.now g.out c.args.s.now c.args.instr.now (Switch c.in-Switch.default c.as_slice.result.now) _ _ _ (c.in-Switch.is ∙ ap (λ (ts : List ℕ). Switch c.in-Switch.default ts) (sym c.as_slice.ensures)) (dispatches_run c.args.linked.now g.out c.args.s.now (Switch c.in-Switch.default c.as_slice.result.now) c.run_switch.new.s _ _ c.goes.ensures.goes c.run_switch.result c.run_switch.ensures c.goes.ensures.left)

pub run_byte-requires : goal.run_byte-requires
run_byte-requires g c = let fits : SFits w8 c.in-Byte.n = first_of (search rules, omega (arith, ints), grind (arith, ints)) in run_as c.args.linked.now g.out c.args.s.now c.args.instr.now (Byte (to_z w8 (of_z w8 c.in-Byte.n))) (byte_held c.args.instr.now c.in-Byte.n fits c.in-Byte.is) c.requires.run

pub returns-in-Byte : goal.returns-in-Byte
returns-in-Byte g c =
    let fits : SFits w8 c.in-Byte.n = first_of (search rules, omega (arith, ints), grind (arith, ints)) in
    let ran = dispatches_run c.args.linked.now g.out c.args.s.now (Byte (to_z w8 (of_z w8 c.in-Byte.n))) c.run_byte.new.s c.goes-in-Byte.result c.goes-in-Byte.new.left c.goes-in-Byte.ensures.goes c.run_byte.result c.run_byte.ensures c.goes-in-Byte.ensures.left in
    dispatches_as c.args.linked.now g.out c.args.s.now c.args.instr.now (Byte (to_z w8 (of_z w8 c.in-Byte.n))) _ _ _ (byte_held c.args.instr.now c.in-Byte.n fits c.in-Byte.is) ran

pub run_short-requires : goal.run_short-requires
run_short-requires g c = let fits : SFits w16 c.in-Short.n = first_of (search rules, omega (arith, ints), grind (arith, ints)) in run_as c.args.linked.now g.out c.args.s.now c.args.instr.now (Short (to_z w16 (of_z w16 c.in-Short.n))) (c.in-Short.is ∙ ap (λ (z : ℤ). Short z) (sym (to_z-of_z w16 c.in-Short.n fits))) c.requires.run

pub returns-in-Short : goal.returns-in-Short
returns-in-Short g c =
    let fits : SFits w16 c.in-Short.n = first_of (search rules, omega (arith, ints), grind (arith, ints)) in
    let ran = dispatches_run c.args.linked.now g.out c.args.s.now (Short (to_z w16 (of_z w16 c.in-Short.n))) c.run_short.new.s c.goes-in-Short.result c.goes-in-Short.new.left c.goes-in-Short.ensures.goes c.run_short.result c.run_short.ensures c.goes-in-Short.ensures.left in
    dispatches_as c.args.linked.now g.out c.args.s.now c.args.instr.now (Short (to_z w16 (of_z w16 c.in-Short.n))) _ _ _ (c.in-Short.is ∙ ap (λ (z : ℤ). Short z) (sym (to_z-of_z w16 c.in-Short.n fits))) ran

pub run_scope_object-requires : goal.run_scope_object-requires
run_scope_object-requires g c = run_as c.args.linked.now g.out c.args.s.now c.args.instr.now (ScopeObject c.in-ScopeObject.n) c.in-ScopeObject.is c.requires.run

pub returns-in-ScopeObject : goal.returns-in-ScopeObject
returns-in-ScopeObject g c = dispatches_as c.args.linked.now g.out c.args.s.now c.args.instr.now (ScopeObject c.in-ScopeObject.n) _ _ _ c.in-ScopeObject.is (dispatches_run c.args.linked.now g.out c.args.s.now (ScopeObject c.in-ScopeObject.n) c.run_scope_object.new.s _ _ c.goes-in-ScopeObject.ensures.goes c.run_scope_object.result c.run_scope_object.ensures c.goes-in-ScopeObject.ensures.left)

pub run_debug-requires : goal.run_debug-requires
run_debug-requires g c = run_as c.args.linked.now g.out c.args.s.now c.args.instr.now (Debug c.in-Debug.kind c.in-Debug.name c.in-Debug.reg c.in-Debug.extra) c.in-Debug.is c.requires.run

pub returns-in-Debug : goal.returns-in-Debug
returns-in-Debug g c = dispatches_as c.args.linked.now g.out c.args.s.now c.args.instr.now (Debug c.in-Debug.kind c.in-Debug.name c.in-Debug.reg c.in-Debug.extra) _ _ _ c.in-Debug.is (dispatches_run c.args.linked.now g.out c.args.s.now (Debug c.in-Debug.kind c.in-Debug.name c.in-Debug.reg c.in-Debug.extra) c.run_debug.new.s _ _ c.goes-in-Debug.ensures.goes c.run_debug.result c.run_debug.ensures c.goes-in-Debug.ensures.left)

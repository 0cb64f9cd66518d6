-- The groups of opcodes, and the opcodes of each.
use Rattle.std.specs.Prelude.{ℕ, List, [], ◌∷◌, ◌++◌}
use Rattle.abc_run_dispatch.specs.MemberGroups.{property_call_ops, property_ops}
use Rattle.abc_run_dispatch.specs.NewGroups.{new_ops, scope_ops}
use Rattle.abc_run_dispatch.specs.ObjectGroups.{late_ops, slot_ops, walk_ops}
use Rattle.abc_run_values.specs.Groups.{comparison_ops, constant_ops, control_ops, convert_ops, count_ops, double_ops, local_ops, push_ops, return_ops, single_ops, type_ops}
use Rattle.abc_run_dispatch.specs.ScopeGroups.{find_ops, super_call_ops, super_ops}
use Rattle.abc_run_dispatch.specs.declared.groups.Alone.{Alone}
use Rattle.abc_run_dispatch.specs.declared.groups.Alone.TheVariants as alones
use Rattle.abc_run_dispatch.specs.declared.groups.Numbered.{Numbered}
use Rattle.abc_run_dispatch.specs.declared.groups.Numbered.TheVariants as numbereds
use Rattle.abc_run_dispatch.specs.declared.groups.Paired.{Paired}
use Rattle.abc_run_dispatch.specs.declared.groups.Paired.TheVariants as pairs
use Rattle.abc_file_types.specs.declared.op.TheConstants as op

-- ---- that stand alone

abbrev pub ops_alone : Alone → List ℕ
ops_alone alones.Control = control_ops
ops_alone alones.Walk = walk_ops
ops_alone alones.Push = push_ops
ops_alone alones.Return = return_ops
ops_alone alones.Scope = scope_ops
ops_alone alones.Convert = convert_ops
ops_alone alones.Late = late_ops
ops_alone alones.Single = single_ops
ops_alone alones.Double = double_ops
ops_alone alones.Comparison = comparison_ops
ops_alone alones.Local = local_ops

-- below convert_s, from there on below add, and from add on
abbrev pub first_alone_ops : List ℕ
first_alone_ops = control_ops ++ walk_ops ++ push_ops ++ return_ops ++ scope_ops

abbrev pub second_alone_ops : List ℕ
second_alone_ops = op.ASTYPELATE ∷ op.NEGATE ∷ op.INCREMENT ∷ op.DECREMENT ∷ op.TYPEOF ∷ op.NOT ∷ op.BITNOT ∷ convert_ops

abbrev pub last_alone_ops : List ℕ
last_alone_ops = op.INSTANCEOF ∷ op.ISTYPELATE ∷ op.IN ∷ op.INCREMENT_I ∷ op.DECREMENT_I ∷ op.NEGATE_I ∷ double_ops ++ comparison_ops ++ local_ops

abbrev pub alone_ops : List ℕ
alone_ops = first_alone_ops ++ second_alone_ops ++ last_alone_ops

-- ---- with one number

abbrev pub ops_numbered : Numbered → List ℕ
ops_numbered numbereds.Super = super_ops
ops_numbered numbereds.Constant = constant_ops
ops_numbered numbereds.New = new_ops
ops_numbered numbereds.Call = op.CALL ∷ []
ops_numbered numbereds.Construct = op.CONSTRUCT ∷ []
ops_numbered numbereds.Class = op.NEWCLASS ∷ []
ops_numbered numbereds.Find = find_ops
ops_numbered numbereds.Property = property_ops
ops_numbered numbereds.Slot = slot_ops
ops_numbered numbereds.Typed = type_ops
ops_numbered numbereds.Count = count_ops

abbrev pub numbered_ops : List ℕ
numbered_ops = super_ops ++ constant_ops ++ new_ops ++ op.CALL ∷ op.CONSTRUCT ∷ op.NEWCLASS ∷ find_ops ++ property_ops ++ slot_ops ++ type_ops ++ count_ops

-- ---- with two

abbrev pub ops_paired : Paired → List ℕ
ops_paired pairs.Next = op.HASNEXT2 ∷ []
ops_paired pairs.SuperCall = super_call_ops
ops_paired pairs.PropertyCall = property_call_ops
ops_paired pairs.Construct = op.CONSTRUCTPROP ∷ []

abbrev pub paired_ops : List ℕ
paired_ops = op.HASNEXT2 ∷ op.CONSTRUCTPROP ∷ super_call_ops ++ property_call_ops

-- ---- that ask for numbers

-- conversions
abbrev pub to_number_ops : List ℕ
to_number_ops = op.CONVERT_I ∷ op.CONVERT_U ∷ op.CONVERT_D ∷ []

-- branches below ifeq
abbrev pub first_order_ops : List ℕ
first_order_ops = op.IFNLT ∷ op.IFNLE ∷ op.IFNGT ∷ op.IFNGE ∷ []

-- and above
abbrev pub last_order_ops : List ℕ
last_order_ops = op.IFLT ∷ op.IFLE ∷ op.IFGT ∷ op.IFGE ∷ []

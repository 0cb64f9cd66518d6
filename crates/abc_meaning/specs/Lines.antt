-- How a run ends, as the last line of its log (profile: docs/PROGRAM.md, "Logs").
use Rattle.std.specs.Prelude.{List, [], ℕ, codes}
use Rattle.abc_base.specs.Names.{class_name, fault_name}
use Rattle.abc_meaning.specs.Throwing.{Done, End, FuelSpent, Full, Profile, Stuck, Uncaught}
use Rattle.abc_meaning.specs.declared.thrown.Thrown.{Thrown}
use Rattle.abc_meaning.specs.declared.thrown.Thrown.TheVariants as thrown
use Rattle.abc_link_names.specs.Instances.{instance_at}
use Rattle.abc_link_names.specs.Pool.{name, qname, text}
use Rattle.abc_file_types.specs.declared.tables.Abc.{Abc}
use Rattle.abc_log.specs.Lines.{limit_end, profile_end, uncaught_end, word_end}

-- what was thrown, by the name of its class or of what else it is
abbrev pub thrown_name : Abc → Thrown → List ℕ
thrown_name v (thrown.FileClass k) = text v (qname (name v (instance_at v k).name)).string
thrown_name v (thrown.HostClass c) = class_name c
thrown_name v thrown.Undefined = codes "undefined"
thrown_name v thrown.Null = codes "null"
thrown_name v thrown.Global = codes "global"
thrown_name v thrown.Activation = codes "activation"
thrown_name v thrown.Catch = codes "catch"

-- no run of a verified file is stuck
abbrev pub end_line : Abc → End → List ℕ
end_line v Done = word_end (codes "Done")
end_line v (Uncaught t) = uncaught_end (thrown_name v t)
end_line v (Profile m i fault) = profile_end (fault_name fault)
end_line v FuelSpent = word_end (codes "FuelSpent")
end_line v (Full limit) = limit_end limit
end_line v Stuck = []

-- Names and codes (profile: docs/LINKING.md for classes of the host, docs/MACHINE.md for faults, docs/PROGRAM.md for statuses).
use Rattle.std.specs.Prelude.{ℕ, List, [], ◌∷◌, codes}
use Rattle.abc_base.specs.declared.names.HostClass.{HostClass}
use Rattle.abc_base.specs.declared.names.HostClass.TheVariants as classes
use Rattle.abc_base.specs.declared.names.Fault.{Fault}
use Rattle.abc_base.specs.declared.names.Fault.TheVariants as faults
use Rattle.abc_base.specs.declared.status.Status.{Status}
use Rattle.abc_base.specs.declared.status.Status.TheVariants as statuses

-- the classes of the host, in the order of the host object's properties
abbrev pub host_classes : List HostClass
host_classes =
    classes.Object ∷ classes.Class ∷ classes.Function ∷ classes.Namespace ∷ classes.Str ∷ classes.Int ∷ classes.UInt ∷ classes.Number
    ∷ classes.Boolean ∷ classes.Error ∷ classes.TypeError ∷ classes.ReferenceError ∷ classes.ArgumentError ∷ classes.Array ∷ []

-- the name of a class of the host
abbrev pub class_name : HostClass → List ℕ
class_name classes.Object = codes "Object"
class_name classes.Class = codes "Class"
class_name classes.Function = codes "Function"
class_name classes.Namespace = codes "Namespace"
class_name classes.Str = codes "String"
class_name classes.Int = codes "int"
class_name classes.UInt = codes "uint"
class_name classes.Number = codes "Number"
class_name classes.Boolean = codes "Boolean"
class_name classes.Error = codes "Error"
class_name classes.TypeError = codes "TypeError"
class_name classes.ReferenceError = codes "ReferenceError"
class_name classes.ArgumentError = codes "ArgumentError"
class_name classes.Array = codes "Array"

-- the name of a fault
abbrev pub fault_name : Fault → List ℕ
fault_name faults.Double = codes "Double"
fault_name faults.Range = codes "Range"
fault_name faults.NotANumber = codes "NotANumber"
fault_name faults.TextToNumber = codes "TextToNumber"
fault_name faults.ObjectToPrimitive = codes "ObjectToPrimitive"
fault_name faults.TextOrder = codes "TextOrder"
fault_name faults.GetterCall = codes "GetterCall"
fault_name faults.FunctionConstruct = codes "FunctionConstruct"
fault_name faults.ArrayIndex = codes "ArrayIndex"

-- the code of a status
abbrev pub status_code : Status → ℕ
status_code statuses.Done = 0
status_code statuses.Refused = 1
status_code statuses.Usage = 2
status_code statuses.Uncaught = 3
status_code statuses.Profile = 4
status_code statuses.Fuel = 5
status_code statuses.Limit = 6
status_code statuses.ReadFault = 7
status_code statuses.WriteFault = 8
status_code statuses.NoMemory = 9

use Rattle.std.proofs.Common.{codes}
use Rattle.abc_base.specs.Names.{class_name}
use Rattle.abc_base.specs.declared.names.HostClass.TheVariants as classes
use Rattle.abc_base.specs.declared.names.TheConstants.{HOST_CLASSES}
use Rattle.abc_host.proofs.Taken.{contains_from_any, any_from_contains}
use Rattle.abc_host.proofs.names.is_name_of_host.Goals as goal

pub returns-else-is_trace : goal.returns-else-is_trace
returns-else-is_trace c = (
  λ t. contains_from_any class_name HOST_CLASSES (codes "trace") c.args.name.now (c.is_class_among.ensures.0 t),
  λ m. c.is_class_among.ensures.1 (any_from_contains class_name HOST_CLASSES classes.Object (codes "trace") c.args.name.now (λ e. let h = c.is_trace.ensures.1 e in cc) m),
)

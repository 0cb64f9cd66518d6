use Rattle.std.proofs.Common.{◌∙◌, ap, List}
use Rattle.abc_base.specs.declared.names.HostClass.{HostClass}
use Rattle.abc_link_names.specs.Meaning.{host_among}
use Rattle.abc_link_names.proofs.hosts.host_named.Goals as goal

pub returns : goal.returns
returns c = c.host_among.ensures ∙ ap (λ (hosts : List HostClass). host_among hosts c.args.text.now) c.as_slice.ensures

use Rattle.std.proofs.Common.{◌∙◌, ap, subst, sym}
use Rattle.abc_link_names.specs.Owners.{owner_of}
use Rattle.abc_link_names.specs.declared.types.Owner.{Owner}
use Rattle.abc_run_dispatch.specs.Homes.{HasHome, class_of_owner}
use Rattle.abc_run_dispatch.proofs.scopes_here.class_here.Goals as goal

pub class_in-requires : goal.class_in-requires
class_in-requires c =
    let l = c.args.linked.now in
    subst (λ (o : Owner). HasHome l o) (sym (c.owner.ensures ∙ ap (owner_of l.file) c.method.ensures)) c.requires.home

pub returns-clause-is : goal.returns-clause-is
returns-clause-is c = ap class_of_owner (sym (c.owner.ensures ∙ ap (owner_of c.args.linked.now.file) c.method.ensures)) ∙ c.class_in.ensures.is

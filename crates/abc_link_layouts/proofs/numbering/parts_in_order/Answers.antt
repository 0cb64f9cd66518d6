use Rattle.abc_link_layouts.proofs.Numbered.{numbered_by}
use Rattle.abc_link_layouts.proofs.Pushing.{all_pushed}
use Rattle.abc_link_layouts.proofs.numbering.parts_in_order.Goals as goal

pub returns : goal.returns
returns c =
    let is = all_pushed _ _ _ _ _ _ _ _ _ _ _ _ _ _ _ c.requires.is c.as_slice-3.ensures c.new-parts.ensures c.as_slice.ensures c.as_slice-2.ensures c.len.ensures c.len-2.ensures c.len-3.ensures
    c.in_ok-push_hosts.ensures c.in_ok-push_host_objects.ensures c.in_ok-push_instances.ensures c.in_ok-push_class_objects.ensures c.in_ok-push_globals.ensures c.in_ok-push_bodies.ensures in
    record { is = is; numbering = numbered_by _ _ _ _ c.requires is }

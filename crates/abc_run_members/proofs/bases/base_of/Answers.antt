use Rattle.std.proofs.Common.{◌≢◌, ◌∙◌, ap, subst, sym}
use Rattle.std.specs.declared.option.Option.{Option}
use Rattle.abc_link_names.proofs.ClassBases.{bases_known, named_base, no_base}
use Rattle.abc_link_names.specs.Bases.{base_named}
use Rattle.abc_link_names.specs.Instances.{instance_at}
use Rattle.abc_link_names.specs.declared.named.Named.{Named}
use Rattle.abc_link_names.specs.Linked.{above}
use Rattle.abc_link_names.specs.declared.part.LayoutId.{LayoutId}
use Rattle.abc_link_names.specs.ClassBases.{BaseKnown}
use Rattle.abc_file_types.specs.declared.tables.Abc.{Abc}
use Rattle.abc_run_members.specs.Based.{IsClassPart, named_of}
use Rattle.abc_run_members.proofs.BasesKnown.{base_found, base_is_class, base_known, same_base}
use Rattle.abc_run_members.proofs.bases.base_of.Goals as goal

pub returns-then-name-eq0-clause-is : goal.returns-then-name-eq0-clause-is
returns-then-name-eq0-clause-is c = no_base c.args.linked.now c.linked_law.ensures c.args.class (ap (λ (v : Abc). (instance_at v c.args.class).super_name) (sym c.abc.ensures) ∙ sym c.super_name-name.ensures ∙ c.if-name-eq0.true)

pub part_of-requires : goal.part_of-requires
part_of-requires c =
    let l = c.args.linked.now in
    (base_found l c.linked_law.ensures c.args.class c.above-above.result.0 c.requires (c.above-above.ensures ∙ ap (λ (y : LayoutId). above l y.0) c.layout_of-layout.ensures)).0

pub base_in-requires : goal.base_in-requires
base_in-requires c =
    let l = c.args.linked.now in
    let found = base_found l c.linked_law.ensures c.args.class c.above-above.result.0 c.requires (c.above-above.ensures ∙ ap (λ (y : LayoutId). above l y.0) c.layout_of-layout.ensures) in
    subst IsClassPart (sym (c.part_of.ensures ∙ found.1)) (base_is_class (base_named l.file c.args.class))

pub returns-clause-is : goal.returns-clause-is
returns-clause-is c =
    let l = c.args.linked.now in
    let found = base_found l c.linked_law.ensures c.args.class c.above-above.result.0 c.requires (c.above-above.ensures ∙ ap (λ (y : LayoutId). above l y.0) c.layout_of-layout.ensures) in
    let some : (instance_at l.file c.args.class).super_name ≢ 0 = λ q. c.if-name-eq0.false (c.super_name-name.ensures ∙ ap (λ (v : Abc). (instance_at v c.args.class).super_name) c.abc.ensures ∙ q) in
    same_base (base_named l.file c.args.class) (named_of c.base_in.result) (named_base l c.linked_law.ensures c.args.class c.requires some) c.base_in.ensures.some (sym found.1 ∙ sym c.part_of.ensures ∙ sym c.base_in.ensures.part)

pub returns-clause-there : goal.returns-clause-there
returns-clause-there c =
    let l = c.args.linked.now in
    let found = base_found l c.linked_law.ensures c.args.class c.above-above.result.0 c.requires (c.above-above.ensures ∙ ap (λ (y : LayoutId). above l y.0) c.layout_of-layout.ensures) in
    let some : (instance_at l.file c.args.class).super_name ≢ 0 = λ q. c.if-name-eq0.false (c.super_name-name.ensures ∙ ap (λ (v : Abc). (instance_at v c.args.class).super_name) c.abc.ensures ∙ q) in
    let is = same_base (base_named l.file c.args.class) (named_of c.base_in.result) (named_base l c.linked_law.ensures c.args.class c.requires some) c.base_in.ensures.some (sym found.1 ∙ sym c.part_of.ensures ∙ sym c.base_in.ensures.part) in
    base_known l c.base_in.result (subst (λ (o : Option Named). BaseKnown l o) is (bases_known l c.linked_law.ensures c.args.class c.requires))

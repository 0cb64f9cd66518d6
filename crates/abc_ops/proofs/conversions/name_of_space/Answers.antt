use Rattle.std.proofs.Common.{◌≡◌, subst, sym}
use Rattle.abc_link_names.specs.Pool.{space}
use Rattle.abc_file_types.specs.declared.tables.Abc.{Abc}
use Rattle.abc_objects.specs.Starts.{IsShort}
use Rattle.abc_objects.proofs.Started.{linked_name}
use Rattle.abc_ops.proofs.conversions.name_of_space.Goals as goal

pub span_of_string-requires : goal.span_of_string-requires
span_of_string-requires c =
    let l = c.args.l.now in
    let name = subst (λ (v : Abc). c.space_name.result ≡ (space v c.args.space).name) c.abc-abc.ensures c.space_name.ensures in
    subst (λ (v : Abc). IsShort v.strings c.space_name.result) (sym c.abc-abc.ensures)
    (subst (IsShort l.file.strings) (sym name) (linked_name l c.args.space c.linked_law.ensures))

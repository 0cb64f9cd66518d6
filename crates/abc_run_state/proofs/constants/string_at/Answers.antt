use Rattle.std.proofs.Common.{◌≡◌, subst, sym}
use Rattle.abc_objects.specs.Starts.{IsShort}
use Rattle.abc_objects.proofs.Started.{stored, string_short}
use Rattle.abc_file_types.specs.declared.tables.Abc.{Abc}
use Rattle.abc_run_state.proofs.constants.string_at.Goals as goal

pub span_of_string-requires : goal.span_of_string-requires
span_of_string-requires c =
    subst (λ (v : Abc). IsShort v.strings c.args.index) (sym c.abc.ensures) (string_short c.args.linked.now.file c.args.index (stored c.args.linked.now.file c.linked_law.ensures.fits) c.requires)

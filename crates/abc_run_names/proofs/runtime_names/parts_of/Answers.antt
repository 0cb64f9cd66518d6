use Rattle.std.proofs.Common.{◌∙◌, ◌-◌, ap, arith, sym}
use Rattle.std.specs.Prelude.{slice_get}
use Rattle.abc_file_types.specs.declared.tables.Abc.{Abc}
use Rattle.abc_run_state.specs.Outer.{setting_in}
use Rattle.abc_run_names.specs.Named.{name_parts_count}
use Rattle.abc_run_names.proofs.Forms.{form_found, form_none, form_past}
use Rattle.abc_run_names.proofs.runtime_names.parts_of.Goals as goal

pub returns-then-name-eq0 : goal.returns-then-name-eq0
returns-then-name-eq0 c = λ out. sym (ap name_parts_count (form_none (setting_in c.args.linked.now out) c.args.name c.if-name-eq0.true))

pub returns-in-Some : goal.returns-in-Some
returns-in-Some c = λ out.
    c.parts_in.ensures (setting_in c.args.linked.now out)
    ∙ sym (ap name_parts_count (form_found (setting_in c.args.linked.now out) c.args.name c.in-Some.found.now (omega arith) (ap (λ (v : Abc). slice_get v.names (c.args.name - 1)) (sym c.abc.ensures) ∙ c.in-Some.ensures)))

pub returns-in-None : goal.returns-in-None
returns-in-None c = λ out. sym (ap name_parts_count (form_past (setting_in c.args.linked.now out) c.args.name (omega arith) (ap (λ (v : Abc). slice_get v.names (c.args.name - 1)) (sym c.abc.ensures) ∙ c.in-None.ensures)))

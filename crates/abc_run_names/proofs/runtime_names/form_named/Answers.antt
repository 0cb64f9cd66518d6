use Rattle.std.proofs.Common.{◌∙◌, ◌-◌, ap, arith, sym}
use Rattle.std.specs.Prelude.{slice_get}
use Rattle.abc_file_types.specs.declared.tables.Abc.{Abc}
use Rattle.abc_run_state.specs.Outer.{setting_in}
use Rattle.abc_run_names.proofs.Forms.{form_found, form_none, form_past, string_small}
use Rattle.abc_run_names.proofs.runtime_names.form_named.Goals as goal

pub returns-then-name-eq0 : goal.returns-then-name-eq0
returns-then-name-eq0 c = λ out. sym (form_none (setting_in c.args.linked.now out) c.args.name c.if-name-eq0.true)

pub form_of-requires : goal.form_of-requires
form_of-requires c = string_small c.args.linked.now c.linked_law.ensures (c.args.name - 1) c.in-Some.found.now (ap (λ (v : Abc). slice_get v.names (c.args.name - 1)) (sym c.abc.ensures) ∙ c.in-Some.ensures)

pub returns-in-Some : goal.returns-in-Some
returns-in-Some c = λ out.
    c.form_of.ensures out
    ∙ sym (form_found (setting_in c.args.linked.now out) c.args.name c.in-Some.found.now (omega arith) (ap (λ (v : Abc). slice_get v.names (c.args.name - 1)) (sym c.abc.ensures) ∙ c.in-Some.ensures))

pub returns-in-None : goal.returns-in-None
returns-in-None c = λ out. sym (form_past (setting_in c.args.linked.now out) c.args.name (omega arith) (ap (λ (v : Abc). slice_get v.names (c.args.name - 1)) (sym c.abc.ensures) ∙ c.in-None.ensures))

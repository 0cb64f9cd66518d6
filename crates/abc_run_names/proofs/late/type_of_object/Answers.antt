use Rattle.std.proofs.Common.{◌∙◌, ap, sym}
use Rattle.abc_heap_store.specs.declared.records.What.{What}
use Rattle.abc_meaning.specs.Late.{type_of_what}
use Rattle.abc_run_state.specs.Outer.{setting_in, world}
use Rattle.abc_run_names.proofs.Typed.{late_object}
use Rattle.abc_run_names.proofs.late.type_of_object.Goals as goal

pub returns : goal.returns
returns c = λ out.
    let p = setting_in c.args.linked.now out in
    let w = world c.args.s.now out in
    late_object p c.args.o w c.requires ∙ ap (λ (x : What). type_of_what p x w) (sym c.what.ensures) ∙ c.type_of_what.ensures out w

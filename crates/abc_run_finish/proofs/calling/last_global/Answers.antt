use Rattle.std.proofs.Common.{◌≡◌, ◌-◌, ◌∙◌, ℕ, length, ap, arith}
use Rattle.abc_run_state.specs.Outer.{world}
use Rattle.abc_meaning.specs.Entering.{global}
use Rattle.abc_file_types.specs.declared.tables.Abc.{Abc}
use Rattle.abc_run_finish.proofs.calling.last_global.Goals as goal

pub global_of-requires : goal.global_of-requires
global_of-requires c =
    let many : c.len-scripts.result ≡ length c.args.linked.now.file.scripts = c.len-scripts.ensures ∙ ap (λ (v : Abc). length v.scripts) c.abc.ensures in
    let some = c.requires.scripts in
    record { over = c.requires.over; script = omega (arith, many, some) }

pub returns : goal.returns
returns c = λ out.
    let many : c.len-scripts.result ≡ length c.args.linked.now.file.scripts = c.len-scripts.ensures ∙ ap (λ (v : Abc). length v.scripts) c.abc.ensures in
    c.global_of.ensures.is out ∙ ap (λ (n : ℕ). global (n - 1) (world c.args.s.now out)) many

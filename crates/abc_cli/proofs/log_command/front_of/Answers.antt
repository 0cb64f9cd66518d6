use Rattle.std.proofs.Common.{◌∙◌, ◌++◌, ◌≤◌, ◌^◌, All, List, ℕ, ap, length, subst, sym}
use Rattle.abc_file_types.specs.Bodies.{IsReadyBody}
use Rattle.abc_file_types.specs.Files.{file_bytes}
use Rattle.abc_file_types.specs.declared.tables.Abc.{Abc}
use Rattle.abc_link_names.specs.Linked.{LinkedFile}
use Rattle.abc_cli_answers.proofs.Ending.{fits_ready}
use Rattle.abc_cli.proofs.Logging.{short_file}
use Rattle.abc_cli.proofs.log_command.front_of.Goals as goal

pub write-requires : goal.write-requires
write-requires c =
    let same = c.abc.ensures ∙ ap (λ (l : LinkedFile). l.file) c.linked.ensures in
    subst (λ (v : Abc). All IsReadyBody v.bodies) (sym same) (fits_ready c.args.verified.now.file c.requires.linked.fits)

pub returns-clause-file : goal.returns-clause-file
returns-clause-file c =
    let same = c.abc.ensures ∙ ap (λ (l : LinkedFile). l.file) c.linked.ensures in
    c.in_ok-write.ensures ∙ ap (λ b. b ++ file_bytes c.abc.result.now) c.new-file.ensures.items ∙ ap file_bytes same

pub returns-clause-short : goal.returns-clause-short
returns-clause-short c =
    let same = c.abc.ensures ∙ ap (λ (l : LinkedFile). l.file) c.linked.ensures in
    let is = c.in_ok-write.ensures ∙ ap (λ b. b ++ file_bytes c.abc.result.now) c.new-file.ensures.items ∙ ap file_bytes same in
    subst (λ (bytes : List ℕ). length bytes ≤ 2 ^ 24) (sym is) (short_file c.args.verified.now.file c.requires.linked.fits)

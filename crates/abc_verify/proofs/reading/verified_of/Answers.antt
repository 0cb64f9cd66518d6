use Rattle.std.proofs.Common.{ap, refl, subst, sym}
use Rattle.abc_link_layouts.specs.Numbering.{HasLayoutNumbers}
use Rattle.abc_link_names.specs.Linked.{IsLinkedFile, LinkedFile}
use Rattle.abc_verify.specs.Typed.{AllTyped}
use Rattle.abc_verify.specs.FileRefusing.{IsUnverifiedBy}
use Rattle.abc_verify.specs.declared.verified_error.VerifiedError.{VerifiedError}
use Rattle.abc_verify.proofs.Verifying.{is_placed, verify_refuses}
use Rattle.abc_verify.proofs.reading.verified_of.Goals as goal

pub error_of-requires : goal.error_of-requires
error_of-requires c = is_placed c.args.linked.file c.args.places.now c.args.linked c.in-Err.e refl c.requires.places c.in-Err.ensures

pub returns-in-Err-clause-refused : goal.returns-in-Err-clause-refused
returns-in-Err-clause-refused c =
    subst (λ (e : VerifiedError). IsUnverifiedBy c.args.linked.file c.args.places.now e) (sym c.error_of.ensures)
    (verify_refuses c.args.linked.file c.args.places.now c.args.linked c.in-Err.e refl c.requires.linked c.requires.numbered c.in-Err.ensures)

pub returns-in-Ok-clause-ok : goal.returns-in-Ok-clause-ok
returns-in-Ok-clause-ok c =
    let same = c.in-Ok.ensures.0 in
    record { file = ap (λ (l : LinkedFile). l.file) same; linked = subst IsLinkedFile (sym same) c.requires.linked; numbered = subst HasLayoutNumbers (sym same) c.requires.numbered; typed = subst AllTyped (sym same) c.in-Ok.ensures.2 }

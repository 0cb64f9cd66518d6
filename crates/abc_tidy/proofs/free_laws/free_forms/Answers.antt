-- A file has at most one free form, and an accepted file has one.
use Rattle.abc_tidy.proofs.Forms.{one_free, tidied_has_free}
use Rattle.abc_tidy.proofs.free_laws.free_forms.Goals as goal

pub returns-clause-one : goal.returns-clause-one
returns-clause-one c = one_free

pub returns-clause-accepted : goal.returns-clause-accepted
returns-clause-accepted c = λ v t is. tidied_has_free v t is.value

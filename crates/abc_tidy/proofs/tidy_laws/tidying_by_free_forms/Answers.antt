-- Tidied files and free forms.
use Rattle.std.proofs.Common.{ap}
use Rattle.abc_file_types.specs.Files.{file_bytes}
use Rattle.abc_file_types.proofs.Whole.{canonical_same}
use Rattle.abc_tidy.proofs.Kept.{kept, one_form, same}
use Rattle.abc_tidy.proofs.tidy_laws.tidying_by_free_forms.Goals as goal

pub returns-clause-kept : goal.returns-clause-kept
returns-clause-kept c = kept

pub returns-clause-values : goal.returns-clause-values
returns-clause-values c = λ v t w u f g. (one_form v t w u f g, same v t w u f g)

pub returns-clause-bytes : goal.returns-clause-bytes
returns-clause-bytes c = λ v t w u f g. (λ e. one_form v t w u f g (canonical_same t u f.fits.0 g.fits.0 f.fits.1 g.fits.1 e), λ h. ap file_bytes (same v t w u f g h))

pub returns-clause-one : goal.returns-clause-one
returns-clause-one c = λ v t u f g. let k = kept v t f in same v t v u f g (record { free = k.free; first = k.first; second = k.first })

use Rattle.abc_file_types.proofs.Whole.{file-exact, file_read-exact, version-exact}
use Rattle.abc_file.proofs.laws.reading_is_exact.Goals as goal

pub returns : goal.returns
returns c = record {
  version = version-exact;
  file = file-exact;
  file_read = file_read-exact;
}

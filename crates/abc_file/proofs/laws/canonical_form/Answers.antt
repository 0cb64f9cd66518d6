use Rattle.std.proofs.Common.{ap}
use Rattle.abc_file_types.specs.Files.{file_bytes}
use Rattle.abc_file_types.proofs.Whole.{canonical_file, canonical_least, canonical_same, decided, least_only}
use Rattle.abc_file.proofs.laws.canonical_form.Goals as goal

pub returns-clause-spelled : goal.returns-clause-spelled
returns-clause-spelled c = λ v b f. (canonical_file v b f).0

pub returns-clause-shortest : goal.returns-clause-shortest
returns-clause-shortest c = λ v b f. (canonical_file v b f).1

pub returns-clause-least : goal.returns-clause-least
returns-clause-least c = λ v b f. (least_only v b f, canonical_least v b f)

pub returns-clause-one_form : goal.returns-clause-one_form
returns-clause-one_form c = λ v w f g. (canonical_same v w f.0 g.0 f.1 g.1, ap file_bytes)

pub returns-clause-once : goal.returns-clause-once
returns-clause-once c = λ v w f g. ap file_bytes ((decided (file_bytes v)).one_value w v g (canonical_file v f.0 f.1).0)

use Rattle.abc_file_types.proofs.Exactness.{class_info-exact, instance-exact, metadata-exact, method-exact, option_value-exact, script-exact, trait_info-exact}
use Rattle.abc_traits.proofs.laws.definition_parts_law.Goals as goal

pub returns : goal.returns
returns c = record {
  option_value = option_value-exact;
  method = method-exact;
  metadata = metadata-exact;
  trait_info = trait_info-exact;
  instance = instance-exact;
  class_info = class_info-exact;
  script = script-exact;
}

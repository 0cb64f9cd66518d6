-- What is given of a verified file, all together.
use Rattle.abc_objects.proofs.Started.{stored}
use Rattle.abc_link_names.specs.Linked.{IsLinkedFile}
use Rattle.abc_meaning.specs.Setting.{Setting}
use Rattle.abc_meaning_sound.specs.Given.{FileGiven}
use Rattle.abc_meaning_sound.proofs.Begun.{starts_hold}
use Rattle.abc_meaning_sound.proofs.Filed.{formed, int_there, method_is, some_script, uint_there}
use Rattle.abc_meaning_sound.proofs.Owned.{cinits, iinits, inits}

pub file_given : (p : Setting) → IsLinkedFile p.linked → FileGiven p
file_given p linked = record {
  linked = linked;
  starts = λ h x z low. starts_hold p.linked h linked x z low;
  methods = method_is p linked;
  formed = formed p linked;
  ints = int_there p.linked.file (stored p.linked.file linked.fits);
  uints = uint_there p.linked.file (stored p.linked.file linked.fits);
  one_script = some_script p.linked linked;
  inits = inits p linked;
  cinits = cinits p linked;
  iinits = iinits p linked;
}

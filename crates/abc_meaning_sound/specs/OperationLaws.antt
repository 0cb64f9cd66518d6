-- What is proved: all operations leave a sound world, and what they answer is there and of its kind.
use Rattle.abc_link_names.specs.Linked.{IsLinkedFile}
use Rattle.abc_meaning_sound.specs.Given.{OpsGiven}
use Rattle.abc_meaning.specs.Setting.{Setting}

-- over a linked file, each operation leaves a sound world, and its answer is there and of its kind (`OpsGiven`)
abbrev pub OperationsStaySound : Type 0
OperationsStaySound = (p : Setting) → IsLinkedFile p.linked → OpsGiven p

-- What is proved of a linked file.
use Rattle.abc_link_names.specs.Linked.{IsLinkedFile}
use Rattle.abc_meaning_sound.specs.Given.{FileGiven, ScopesGiven}
use Rattle.abc_meaning.specs.Setting.{Setting}

-- a linked file has all facts of a file that the proofs of soundness use (`FileGiven`)
abbrev pub FilesGive : Type 0
FilesGive = (p : Setting) → IsLinkedFile p.linked → FileGiven p

-- in a linked file, activations and catch objects have their layouts, and the bases of classes are known (`ScopesGiven`)
abbrev pub ScopesHaveLayouts : Type 0
ScopesHaveLayouts = (p : Setting) → IsLinkedFile p.linked → ScopesGiven p

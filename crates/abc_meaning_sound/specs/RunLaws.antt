-- What is proved of the searches of a verified file, and that there are such files; the promises themselves stand in abc_meaning,
-- specs/Laws.
use Rattle.std.specs.Prelude.{◌≡◌, None}
use Rattle.abc_heap_store.specs.declared.records.Limits.{Limits}
use Rattle.abc_meaning_sound.specs.Given.{FileGiven, MakersGiven, ScopesGiven, SearchGiven}
use Rattle.abc_meaning.specs.Setting.{Setting}
use Rattle.abc_meaning.specs.ThrowLaws.{AreCounted, IsVerifiedSetting}
use Rattle.abc_meaning.specs.Meaning.{first_world, too_small}

-- what a search finds in a sound world is there (`SearchGiven`)
abbrev pub SearchesFindWhatIsThere : Type 0
SearchesFindWhatIsThere = (p : Setting) → FileGiven p → ScopesGiven p → SearchGiven p

-- the base of a class whose maker runs has a maker too, which can be run on the object, or is of the host (`MakersGiven`)
abbrev pub BasesHaveMakers : Type 0
BasesHaveMakers = (p : Setting) → FileGiven p → ScopesGiven p → MakersGiven p

-- all that is asked can be met together: of a verified file, and of limits within which its run begins
abbrev pub SomeAreVerified : Type 0
SomeAreVerified = (p : Setting) × (limits : Limits) × IsVerifiedSetting p × AreCounted limits × (too_small (first_world p limits).heap ≡ None)

-- Words that stand with what they say.
use Rattle.std.specs.Prelude.{◌≡◌, List, All}
use Rattle.abc_text_lines.specs.Texts.{word_of_text}
use Rattle.abc_text_tokens.specs.declared.entries.Entry.{Entry}

abbrev pub IsRight : Entry → Type 0
IsRight entry = entry.word ≡ word_of_text entry.name.now

-- each word stands with what it says
abbrev pub AreRight : List Entry → Type 0
AreRight entries = All IsRight entries

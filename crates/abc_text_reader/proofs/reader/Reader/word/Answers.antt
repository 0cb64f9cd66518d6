use Rattle.abc_text_reader.proofs.Taking.{next_word, no_word}
use Rattle.abc_text_reader.proofs.reader.Reader.word.Goals as goal

pub returns-in-Some : goal.returns-in-Some
returns-in-Some c = next_word c.args.self.now c.in-Some.line c.in-Some.is

pub returns-in-None : goal.returns-in-None
returns-in-None c = no_word c.args.self.now c.in-None.is

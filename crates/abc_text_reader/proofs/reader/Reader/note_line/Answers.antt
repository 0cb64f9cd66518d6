use Rattle.std.proofs.Common.{refl}
use Rattle.abc_text_reader.proofs.Taking.{noted_body, noted_label}
use Rattle.abc_text_reader.proofs.reader.Reader.note_line.Goals as goal

pub returns-in-Label : goal.returns-in-Label
returns-in-Label c = noted_label c.args.self.now _ c.args.line.now c.note_label.result c.requires.places c.in-Label.is refl refl refl refl refl refl refl refl refl c.note_label.ensures.was c.requires.ahead c.note_label.ensures.is

pub returns-in-Body : goal.returns-in-Body
returns-in-Body c = noted_body c.args.self.now c.note_body.new.self c.args.line.now c.note_body.result c.in-Body.is c.note_body.ensures

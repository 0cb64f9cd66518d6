-- The law of the listing, and that it is of no other file and has no fault.
use Rattle.std.specs.Prelude.{◌<◌, List, ℕ}
use Rattle.std.specs.List.{All}
use Rattle.std.proofs.lemmas.List.Elements.{recursion_from_All}
use Rattle.abc_text_lines.specs.Answers.{IsAssemblyOf}
use Rattle.abc_text_lines.specs.Listing.{listing}
use Rattle.abc_text_lines.proofs.Answering.{text_decided}
use Rattle.abc_file_types.specs.declared.tables.Abc.{Abc}
use Rattle.abc_file_types.specs.Files.{IsFile}
use Rattle.abc_disasm.proofs.Bytefields.{byte_values}
use Rattle.abc_disasm.proofs.Listings.{listing_is_text}
use Rattle.abc_disasm.proofs.roundtrip_laws.listing_is_read_back.Goals as goal

read_back : (v : Abc) (b : List ℕ) → All (λ x. x < 256) b → IsFile v b → IsAssemblyOf (listing v) v
read_back v b all file = listing_is_text v (b, file) (byte_values v b (recursion_from_All (λ x. x < 256) b all) file.0)

pub returns-clause-text : goal.returns-clause-text
returns-clause-text c = read_back

pub returns-clause-no_other : goal.returns-clause-no_other
returns-clause-no_other c = λ v w b all file is. (text_decided (listing v)).one_value w v is (read_back v b all file)

pub returns-clause-no_fault : goal.returns-clause-no_fault
returns-clause-no_fault c = λ v b f all file is. (text_decided (listing v)).never_both v f (read_back v b all file) is

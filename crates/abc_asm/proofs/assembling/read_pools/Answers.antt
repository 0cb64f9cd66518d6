-- One part after the other, each of which may have a fault.
use Rattle.std.proofs.Common.{ℕ, List, refl}
use Rattle.std.proofs.lemmas.Result.{err_from_is_err_and}
use Rattle.abc_file_types.specs.declared.names.Multiname.{Multiname}
use Rattle.abc_file_types.specs.declared.names.Namespace.{Namespace}
use Rattle.abc_file_types.specs.declared.tables.Eight.{Eight}
use Rattle.abc_text_reader.specs.Parts.{TextPart, pair_of}
use Rattle.abc_text_reader.proofs.Pairs.{mapped_err, mapped_ok, pair_first, pair_ok, pair_second}
use Rattle.abc_asm.specs.Whole.{doubles_read, ints_read, names_read, namespaces_read, pools_made, sets_read, strings_read, uints_read}
use Rattle.abc_asm.proofs.assembling.read_pools.Goals as goal

abbrev from_sets : TextPart (List (List ℕ) × List Multiname)
from_sets = pair_of sets_read names_read

abbrev from_namespaces : TextPart (List Namespace × (List (List ℕ) × List Multiname))
from_namespaces = pair_of namespaces_read from_sets

abbrev from_strings : TextPart (List (List ℕ) × (List Namespace × (List (List ℕ) × List Multiname)))
from_strings = pair_of strings_read from_namespaces

abbrev from_doubles : TextPart (List Eight × (List (List ℕ) × (List Namespace × (List (List ℕ) × List Multiname))))
from_doubles = pair_of doubles_read from_strings

abbrev from_uints : TextPart (List ℕ × (List Eight × (List (List ℕ) × (List Namespace × (List (List ℕ) × List Multiname)))))
from_uints = pair_of uints_read from_doubles

pub returns-in_err-ints-clause-reads : goal.returns-in_err-ints-clause-reads
returns-in_err-ints-clause-reads c =
    let p = err_from_is_err_and c.from_residual.result c.from_residual.ensures.1 in
    rw (p.1, p.2) (mapped_err pools_made (pair_of ints_read from_uints) c.args.reader.now c.read_flat.new.reader _
    (pair_first ints_read from_uints c.args.reader.now c.args.reader.now c.read_flat.new.reader _ c.in_err-ints.ensures.reads))

pub returns-in_err-uints-clause-reads : goal.returns-in_err-uints-clause-reads
returns-in_err-uints-clause-reads c =
    let p = err_from_is_err_and c.from_residual-in_err-uints.result c.from_residual-in_err-uints.ensures.1 in
    rw (p.1, p.2) (mapped_err pools_made (pair_of ints_read from_uints) c.args.reader.now c.read_flat-2.new.reader _
    (pair_second ints_read from_uints c.args.reader.now c.read_flat.new.reader c.read_flat-2.new.reader c.in_ok-ints.ints _ c.in_ok-ints.ensures.reads c.in_ok-ints.ensures.goes
    (pair_first uints_read from_doubles c.read_flat.new.reader c.read_flat.new.reader c.read_flat-2.new.reader _ c.in_err-uints.ensures.reads)))

pub returns-in_err-doubles-clause-reads : goal.returns-in_err-doubles-clause-reads
returns-in_err-doubles-clause-reads c =
    let p = err_from_is_err_and c.from_residual-in_err-doubles.result c.from_residual-in_err-doubles.ensures.1 in
    rw (p.1, p.2) (mapped_err pools_made (pair_of ints_read from_uints) c.args.reader.now c.read_flat-3.new.reader _
    (pair_second ints_read from_uints c.args.reader.now c.read_flat.new.reader c.read_flat-3.new.reader c.in_ok-ints.ints _ c.in_ok-ints.ensures.reads c.in_ok-ints.ensures.goes
    (pair_second uints_read from_doubles c.read_flat.new.reader c.read_flat-2.new.reader c.read_flat-3.new.reader c.in_ok-uints.uints _ c.in_ok-uints.ensures.reads c.in_ok-uints.ensures.goes
    (pair_first doubles_read from_strings c.read_flat-2.new.reader c.read_flat-2.new.reader c.read_flat-3.new.reader _ c.in_err-doubles.ensures.reads))))

pub returns-in_err-strings-clause-reads : goal.returns-in_err-strings-clause-reads
returns-in_err-strings-clause-reads c =
    let p = err_from_is_err_and c.from_residual-in_err-strings.result c.from_residual-in_err-strings.ensures.1 in
    rw (p.1, p.2) (mapped_err pools_made (pair_of ints_read from_uints) c.args.reader.now c.read_flat-4.new.reader _
    (pair_second ints_read from_uints c.args.reader.now c.read_flat.new.reader c.read_flat-4.new.reader c.in_ok-ints.ints _ c.in_ok-ints.ensures.reads c.in_ok-ints.ensures.goes
    (pair_second uints_read from_doubles c.read_flat.new.reader c.read_flat-2.new.reader c.read_flat-4.new.reader c.in_ok-uints.uints _ c.in_ok-uints.ensures.reads c.in_ok-uints.ensures.goes
    (pair_second doubles_read from_strings c.read_flat-2.new.reader c.read_flat-3.new.reader c.read_flat-4.new.reader c.in_ok-doubles.doubles _ c.in_ok-doubles.ensures.reads c.in_ok-doubles.ensures.goes
    (pair_first strings_read from_namespaces c.read_flat-3.new.reader c.read_flat-3.new.reader c.read_flat-4.new.reader _ c.in_err-strings.ensures.reads)))))

pub returns-in_err-namespaces-clause-reads : goal.returns-in_err-namespaces-clause-reads
returns-in_err-namespaces-clause-reads c =
    let p = err_from_is_err_and c.from_residual-in_err-namespaces.result c.from_residual-in_err-namespaces.ensures.1 in
    rw (p.1, p.2) (mapped_err pools_made (pair_of ints_read from_uints) c.args.reader.now c.read_flat-5.new.reader _
    (pair_second ints_read from_uints c.args.reader.now c.read_flat.new.reader c.read_flat-5.new.reader c.in_ok-ints.ints _ c.in_ok-ints.ensures.reads c.in_ok-ints.ensures.goes
    (pair_second uints_read from_doubles c.read_flat.new.reader c.read_flat-2.new.reader c.read_flat-5.new.reader c.in_ok-uints.uints _ c.in_ok-uints.ensures.reads c.in_ok-uints.ensures.goes
    (pair_second doubles_read from_strings c.read_flat-2.new.reader c.read_flat-3.new.reader c.read_flat-5.new.reader c.in_ok-doubles.doubles _ c.in_ok-doubles.ensures.reads c.in_ok-doubles.ensures.goes
    (pair_second strings_read from_namespaces c.read_flat-3.new.reader c.read_flat-4.new.reader c.read_flat-5.new.reader c.in_ok-strings.strings _ c.in_ok-strings.ensures.reads c.in_ok-strings.ensures.goes
    (pair_first namespaces_read from_sets c.read_flat-4.new.reader c.read_flat-4.new.reader c.read_flat-5.new.reader _ c.in_err-namespaces.ensures.reads))))))

pub returns-in_err-sets-clause-reads : goal.returns-in_err-sets-clause-reads
returns-in_err-sets-clause-reads c =
    let p = err_from_is_err_and c.from_residual-in_err-sets.result c.from_residual-in_err-sets.ensures.1 in
    rw (p.1, p.2) (mapped_err pools_made (pair_of ints_read from_uints) c.args.reader.now c.read_flat-6.new.reader _
    (pair_second ints_read from_uints c.args.reader.now c.read_flat.new.reader c.read_flat-6.new.reader c.in_ok-ints.ints _ c.in_ok-ints.ensures.reads c.in_ok-ints.ensures.goes
    (pair_second uints_read from_doubles c.read_flat.new.reader c.read_flat-2.new.reader c.read_flat-6.new.reader c.in_ok-uints.uints _ c.in_ok-uints.ensures.reads c.in_ok-uints.ensures.goes
    (pair_second doubles_read from_strings c.read_flat-2.new.reader c.read_flat-3.new.reader c.read_flat-6.new.reader c.in_ok-doubles.doubles _ c.in_ok-doubles.ensures.reads c.in_ok-doubles.ensures.goes
    (pair_second strings_read from_namespaces c.read_flat-3.new.reader c.read_flat-4.new.reader c.read_flat-6.new.reader c.in_ok-strings.strings _ c.in_ok-strings.ensures.reads c.in_ok-strings.ensures.goes
    (pair_second namespaces_read from_sets c.read_flat-4.new.reader c.read_flat-5.new.reader c.read_flat-6.new.reader c.in_ok-namespaces.namespaces _ c.in_ok-namespaces.ensures.reads c.in_ok-namespaces.ensures.goes
    (pair_first sets_read names_read c.read_flat-5.new.reader c.read_flat-5.new.reader c.read_flat-6.new.reader _ c.in_err-sets.ensures.reads)))))))

pub returns-in_err-names-clause-reads : goal.returns-in_err-names-clause-reads
returns-in_err-names-clause-reads c =
    let p = err_from_is_err_and c.from_residual-in_err-names.result c.from_residual-in_err-names.ensures.1 in
    rw (p.1, p.2) (mapped_err pools_made (pair_of ints_read from_uints) c.args.reader.now c.read_flat-7.new.reader _
    (pair_second ints_read from_uints c.args.reader.now c.read_flat.new.reader c.read_flat-7.new.reader c.in_ok-ints.ints _ c.in_ok-ints.ensures.reads c.in_ok-ints.ensures.goes
    (pair_second uints_read from_doubles c.read_flat.new.reader c.read_flat-2.new.reader c.read_flat-7.new.reader c.in_ok-uints.uints _ c.in_ok-uints.ensures.reads c.in_ok-uints.ensures.goes
    (pair_second doubles_read from_strings c.read_flat-2.new.reader c.read_flat-3.new.reader c.read_flat-7.new.reader c.in_ok-doubles.doubles _ c.in_ok-doubles.ensures.reads c.in_ok-doubles.ensures.goes
    (pair_second strings_read from_namespaces c.read_flat-3.new.reader c.read_flat-4.new.reader c.read_flat-7.new.reader c.in_ok-strings.strings _ c.in_ok-strings.ensures.reads c.in_ok-strings.ensures.goes
    (pair_second namespaces_read from_sets c.read_flat-4.new.reader c.read_flat-5.new.reader c.read_flat-7.new.reader c.in_ok-namespaces.namespaces _ c.in_ok-namespaces.ensures.reads c.in_ok-namespaces.ensures.goes
    (pair_second sets_read names_read c.read_flat-5.new.reader c.read_flat-6.new.reader c.read_flat-7.new.reader c.in_ok-sets.sets _ c.in_ok-sets.ensures.reads c.in_ok-sets.ensures.goes
    c.in_err-names.ensures.reads)))))))

pub returns-clause-reads : goal.returns-clause-reads
returns-clause-reads c =
    mapped_ok pools_made (pair_of ints_read from_uints) c.args.reader.now c.read_flat-7.new.reader (c.in_ok-ints.ints, (c.in_ok-uints.uints, (c.in_ok-doubles.doubles, (c.in_ok-strings.strings, (c.in_ok-namespaces.namespaces, (c.in_ok-sets.sets, c.in_ok-names.names)))))) _ refl
    (pair_ok ints_read from_uints c.args.reader.now c.read_flat.new.reader c.read_flat-7.new.reader c.in_ok-ints.ints (c.in_ok-uints.uints, (c.in_ok-doubles.doubles, (c.in_ok-strings.strings, (c.in_ok-namespaces.namespaces, (c.in_ok-sets.sets, c.in_ok-names.names))))) c.in_ok-ints.ensures.reads c.in_ok-ints.ensures.goes
    (pair_ok uints_read from_doubles c.read_flat.new.reader c.read_flat-2.new.reader c.read_flat-7.new.reader c.in_ok-uints.uints (c.in_ok-doubles.doubles, (c.in_ok-strings.strings, (c.in_ok-namespaces.namespaces, (c.in_ok-sets.sets, c.in_ok-names.names)))) c.in_ok-uints.ensures.reads c.in_ok-uints.ensures.goes
    (pair_ok doubles_read from_strings c.read_flat-2.new.reader c.read_flat-3.new.reader c.read_flat-7.new.reader c.in_ok-doubles.doubles (c.in_ok-strings.strings, (c.in_ok-namespaces.namespaces, (c.in_ok-sets.sets, c.in_ok-names.names))) c.in_ok-doubles.ensures.reads c.in_ok-doubles.ensures.goes
    (pair_ok strings_read from_namespaces c.read_flat-3.new.reader c.read_flat-4.new.reader c.read_flat-7.new.reader c.in_ok-strings.strings (c.in_ok-namespaces.namespaces, (c.in_ok-sets.sets, c.in_ok-names.names)) c.in_ok-strings.ensures.reads c.in_ok-strings.ensures.goes
    (pair_ok namespaces_read from_sets c.read_flat-4.new.reader c.read_flat-5.new.reader c.read_flat-7.new.reader c.in_ok-namespaces.namespaces (c.in_ok-sets.sets, c.in_ok-names.names) c.in_ok-namespaces.ensures.reads c.in_ok-namespaces.ensures.goes
    (pair_ok sets_read names_read c.read_flat-5.new.reader c.read_flat-6.new.reader c.read_flat-7.new.reader c.in_ok-sets.sets c.in_ok-names.names c.in_ok-sets.ensures.reads c.in_ok-sets.ensures.goes
    c.in_ok-names.ensures.reads))))))

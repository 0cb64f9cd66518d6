-- One part after the other, each of which may have a fault.
use Rattle.std.proofs.Common.{List, refl}
use Rattle.std.proofs.lemmas.Result.{err_from_is_err_and}
use Rattle.abc_file_types.specs.declared.classes.ClassInfo.{ClassInfo}
use Rattle.abc_file_types.specs.declared.classes.Instance.{Instance}
use Rattle.abc_file_types.specs.declared.classes.Script.{Script}
use Rattle.abc_file_types.specs.declared.code.Body.{Body}
use Rattle.abc_file_types.specs.declared.methods.Metadata.{Metadata}
use Rattle.abc_text_reader.specs.Parts.{TextPart, pair_of}
use Rattle.abc_text_reader.proofs.Pairs.{mapped_err, mapped_ok, pair_first, pair_ok, pair_second}
use Rattle.abc_asm.specs.Whole.{bodies_read, classes_read, definitions_made, instances_read, metadata_read, methods_read, scripts_read}
use Rattle.abc_asm.proofs.assembling.read_definitions.Goals as goal

abbrev from_scripts : TextPart (List Script × List Body)
from_scripts = pair_of scripts_read bodies_read

abbrev from_classes : TextPart (List ClassInfo × (List Script × List Body))
from_classes = pair_of classes_read from_scripts

abbrev from_instances : TextPart (List Instance × (List ClassInfo × (List Script × List Body)))
from_instances = pair_of instances_read from_classes

abbrev from_metadata : TextPart (List Metadata × (List Instance × (List ClassInfo × (List Script × List Body))))
from_metadata = pair_of metadata_read from_instances

pub returns-in_err-methods-clause-reads : goal.returns-in_err-methods-clause-reads
returns-in_err-methods-clause-reads c =
    let p = err_from_is_err_and c.from_residual.result c.from_residual.ensures.1 in
    rw (p.1, p.2) (mapped_err definitions_made (pair_of methods_read from_metadata) c.args.reader.now c.read_all.new.reader _
    (pair_first methods_read from_metadata c.args.reader.now c.args.reader.now c.read_all.new.reader _ c.in_err-methods.ensures.reads))

pub returns-in_err-metadata-clause-reads : goal.returns-in_err-metadata-clause-reads
returns-in_err-metadata-clause-reads c =
    let p = err_from_is_err_and c.from_residual-in_err-metadata.result c.from_residual-in_err-metadata.ensures.1 in
    rw (p.1, p.2) (mapped_err definitions_made (pair_of methods_read from_metadata) c.args.reader.now c.read_all-2.new.reader _
    (pair_second methods_read from_metadata c.args.reader.now c.read_all.new.reader c.read_all-2.new.reader c.in_ok-methods.methods _ c.in_ok-methods.ensures.reads c.in_ok-methods.ensures.goes
    (pair_first metadata_read from_instances c.read_all.new.reader c.read_all.new.reader c.read_all-2.new.reader _ c.in_err-metadata.ensures.reads)))

pub returns-in_err-instances-clause-reads : goal.returns-in_err-instances-clause-reads
returns-in_err-instances-clause-reads c =
    let p = err_from_is_err_and c.from_residual-in_err-instances.result c.from_residual-in_err-instances.ensures.1 in
    rw (p.1, p.2) (mapped_err definitions_made (pair_of methods_read from_metadata) c.args.reader.now c.read_all-3.new.reader _
    (pair_second methods_read from_metadata c.args.reader.now c.read_all.new.reader c.read_all-3.new.reader c.in_ok-methods.methods _ c.in_ok-methods.ensures.reads c.in_ok-methods.ensures.goes
    (pair_second metadata_read from_instances c.read_all.new.reader c.read_all-2.new.reader c.read_all-3.new.reader c.in_ok-metadata.metadata _ c.in_ok-metadata.ensures.reads c.in_ok-metadata.ensures.goes
    (pair_first instances_read from_classes c.read_all-2.new.reader c.read_all-2.new.reader c.read_all-3.new.reader _ c.in_err-instances.ensures.reads))))

pub returns-in_err-classes-clause-reads : goal.returns-in_err-classes-clause-reads
returns-in_err-classes-clause-reads c =
    let p = err_from_is_err_and c.from_residual-in_err-classes.result c.from_residual-in_err-classes.ensures.1 in
    rw (p.1, p.2) (mapped_err definitions_made (pair_of methods_read from_metadata) c.args.reader.now c.read_all-4.new.reader _
    (pair_second methods_read from_metadata c.args.reader.now c.read_all.new.reader c.read_all-4.new.reader c.in_ok-methods.methods _ c.in_ok-methods.ensures.reads c.in_ok-methods.ensures.goes
    (pair_second metadata_read from_instances c.read_all.new.reader c.read_all-2.new.reader c.read_all-4.new.reader c.in_ok-metadata.metadata _ c.in_ok-metadata.ensures.reads c.in_ok-metadata.ensures.goes
    (pair_second instances_read from_classes c.read_all-2.new.reader c.read_all-3.new.reader c.read_all-4.new.reader c.in_ok-instances.instances _ c.in_ok-instances.ensures.reads c.in_ok-instances.ensures.goes
    (pair_first classes_read from_scripts c.read_all-3.new.reader c.read_all-3.new.reader c.read_all-4.new.reader _ c.in_err-classes.ensures.reads)))))

pub returns-in_err-scripts-clause-reads : goal.returns-in_err-scripts-clause-reads
returns-in_err-scripts-clause-reads c =
    let p = err_from_is_err_and c.from_residual-in_err-scripts.result c.from_residual-in_err-scripts.ensures.1 in
    rw (p.1, p.2) (mapped_err definitions_made (pair_of methods_read from_metadata) c.args.reader.now c.read_all-5.new.reader _
    (pair_second methods_read from_metadata c.args.reader.now c.read_all.new.reader c.read_all-5.new.reader c.in_ok-methods.methods _ c.in_ok-methods.ensures.reads c.in_ok-methods.ensures.goes
    (pair_second metadata_read from_instances c.read_all.new.reader c.read_all-2.new.reader c.read_all-5.new.reader c.in_ok-metadata.metadata _ c.in_ok-metadata.ensures.reads c.in_ok-metadata.ensures.goes
    (pair_second instances_read from_classes c.read_all-2.new.reader c.read_all-3.new.reader c.read_all-5.new.reader c.in_ok-instances.instances _ c.in_ok-instances.ensures.reads c.in_ok-instances.ensures.goes
    (pair_second classes_read from_scripts c.read_all-3.new.reader c.read_all-4.new.reader c.read_all-5.new.reader c.in_ok-classes.classes _ c.in_ok-classes.ensures.reads c.in_ok-classes.ensures.goes
    (pair_first scripts_read bodies_read c.read_all-4.new.reader c.read_all-4.new.reader c.read_all-5.new.reader _ c.in_err-scripts.ensures.reads))))))

pub returns-in_err-bodies-clause-reads : goal.returns-in_err-bodies-clause-reads
returns-in_err-bodies-clause-reads c =
    let p = err_from_is_err_and c.from_residual-in_err-bodies.result c.from_residual-in_err-bodies.ensures.1 in
    rw (p.1, p.2) (mapped_err definitions_made (pair_of methods_read from_metadata) c.args.reader.now c.read_bodies.new.reader _
    (pair_second methods_read from_metadata c.args.reader.now c.read_all.new.reader c.read_bodies.new.reader c.in_ok-methods.methods _ c.in_ok-methods.ensures.reads c.in_ok-methods.ensures.goes
    (pair_second metadata_read from_instances c.read_all.new.reader c.read_all-2.new.reader c.read_bodies.new.reader c.in_ok-metadata.metadata _ c.in_ok-metadata.ensures.reads c.in_ok-metadata.ensures.goes
    (pair_second instances_read from_classes c.read_all-2.new.reader c.read_all-3.new.reader c.read_bodies.new.reader c.in_ok-instances.instances _ c.in_ok-instances.ensures.reads c.in_ok-instances.ensures.goes
    (pair_second classes_read from_scripts c.read_all-3.new.reader c.read_all-4.new.reader c.read_bodies.new.reader c.in_ok-classes.classes _ c.in_ok-classes.ensures.reads c.in_ok-classes.ensures.goes
    (pair_second scripts_read bodies_read c.read_all-4.new.reader c.read_all-5.new.reader c.read_bodies.new.reader c.in_ok-scripts.scripts _ c.in_ok-scripts.ensures.reads c.in_ok-scripts.ensures.goes
    c.in_err-bodies.ensures.reads))))))

pub returns-clause-reads : goal.returns-clause-reads
returns-clause-reads c =
    mapped_ok definitions_made (pair_of methods_read from_metadata) c.args.reader.now c.read_bodies.new.reader (c.in_ok-methods.methods, (c.in_ok-metadata.metadata, (c.in_ok-instances.instances, (c.in_ok-classes.classes, (c.in_ok-scripts.scripts, c.in_ok-bodies.bodies))))) _ refl
    (pair_ok methods_read from_metadata c.args.reader.now c.read_all.new.reader c.read_bodies.new.reader c.in_ok-methods.methods (c.in_ok-metadata.metadata, (c.in_ok-instances.instances, (c.in_ok-classes.classes, (c.in_ok-scripts.scripts, c.in_ok-bodies.bodies)))) c.in_ok-methods.ensures.reads c.in_ok-methods.ensures.goes
    (pair_ok metadata_read from_instances c.read_all.new.reader c.read_all-2.new.reader c.read_bodies.new.reader c.in_ok-metadata.metadata (c.in_ok-instances.instances, (c.in_ok-classes.classes, (c.in_ok-scripts.scripts, c.in_ok-bodies.bodies))) c.in_ok-metadata.ensures.reads c.in_ok-metadata.ensures.goes
    (pair_ok instances_read from_classes c.read_all-2.new.reader c.read_all-3.new.reader c.read_bodies.new.reader c.in_ok-instances.instances (c.in_ok-classes.classes, (c.in_ok-scripts.scripts, c.in_ok-bodies.bodies)) c.in_ok-instances.ensures.reads c.in_ok-instances.ensures.goes
    (pair_ok classes_read from_scripts c.read_all-3.new.reader c.read_all-4.new.reader c.read_bodies.new.reader c.in_ok-classes.classes (c.in_ok-scripts.scripts, c.in_ok-bodies.bodies) c.in_ok-classes.ensures.reads c.in_ok-classes.ensures.goes
    (pair_ok scripts_read bodies_read c.read_all-4.new.reader c.read_all-5.new.reader c.read_bodies.new.reader c.in_ok-scripts.scripts c.in_ok-bodies.bodies c.in_ok-scripts.ensures.reads c.in_ok-scripts.ensures.goes
    c.in_ok-bodies.ensures.reads)))))

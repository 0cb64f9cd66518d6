-- Which definitions some bytes spell as a whole.
use Rattle.std.proofs.Common.{◌≡◌, ℕ, ◌^◌, ◌<◌, ◌++◌, length, refl, sym, subst, arith}
use Rattle.std.specs.Prelude.{◌↔◌, All}
use Rattle.abc_file_types.specs.declared.methods.Metadata.{Metadata}
use Rattle.abc_file_types.specs.declared.methods.Method.{Method}
use Rattle.abc_file_types.specs.declared.tables.Abc.{Abc}
use Rattle.abc_file_types.specs.declared.tables.Sizes.{Sizes}
use Rattle.abc_file_types.specs.Classes.{class_info, definitions, instance, script, sizes_of, sizes_with}
use Rattle.abc_file_types.specs.Methods.{metadata, method, option_value, options}
use Rattle.abc_tables.specs.Fitting.{AreClasses, FitDefinitions, FitsClass, FitsInstance, FitsMetadata, FitsMethod, FitsScript, FitsNumber, Spelled, pools_alone, without_bodies}
use Rattle.abc_tables.proofs.Combined.{counted_spelled, number_fits, times_spelled}

-- a method and its metadata point into pools alone
method_beside : (abc : Abc) (methods metadata classes : ℕ) (m : Method) → Spelled (method (sizes_with abc 0 0 0)) m → Spelled (method (sizes_with abc methods metadata classes)) m
unfolding method options option_value
method_beside abc methods metadata classes m s = s

method_alone : (abc : Abc) (methods metadata classes : ℕ) (m : Method) → Spelled (method (sizes_with abc methods metadata classes)) m → Spelled (method (sizes_with abc 0 0 0)) m
unfolding method options option_value
method_alone abc methods metadata classes m s = s

metadata_beside : (abc : Abc) (methods metadata_count classes : ℕ) (m : Metadata) → Spelled (metadata (sizes_with abc 0 0 0)) m → Spelled (metadata (sizes_with abc methods metadata_count classes)) m
unfolding metadata
metadata_beside abc methods metadata_count classes m s = s

metadata_alone : (abc : Abc) (methods metadata_count classes : ℕ) (m : Metadata) → Spelled (metadata (sizes_with abc methods metadata_count classes)) m → Spelled (metadata (sizes_with abc 0 0 0)) m
unfolding metadata
metadata_alone abc methods metadata_count classes m s = s

-- some bytes spell each table of definitions
pub record AreDefinitions (v : Abc) : Type 0 where
  pub method_count : length v.methods < 2 ^ 30
  pub methods : All (FitsMethod (sizes_of v)) v.methods
  pub metadata_count : length v.metadata < 2 ^ 30
  pub metadata : All (FitsMetadata (sizes_of v)) v.metadata
  pub class_count : length v.classes < 2 ^ 30
  pub instance_count : length v.instances ≡ length v.classes
  pub instances : All (FitsInstance (sizes_of v)) v.instances
  pub classes : All (FitsClass (sizes_of v)) v.classes
  pub script_count : length v.scripts < 2 ^ 30
  pub scripts : All (FitsScript (sizes_of v)) v.scripts

definitions_in : (abc v : Abc) → Spelled (definitions abc) v → AreDefinitions v
unfolding FitsClass FitsInstance FitsMetadata FitsMethod FitsScript FitsNumber definitions
definitions_in abc v s =
    let x = s.is.0 in
    let methods = s.is.1 in
    let kept = methods.4 in
    let count = kept.4 in
    let many = count.4 in
    let most = many.4 in
    let w = sizes_with abc (length x.0) (length x.1.0) x.1.1.0 in
    let method_list = (counted_spelled (method (sizes_with abc 0 0 0)) x.0).0 (record { bytes = methods.0; is = methods.3 }) in
    let metadata_list = (counted_spelled (metadata (sizes_with abc 0 0 0)) x.1.0).0 (record { bytes = kept.0; is = kept.3 }) in
    let few : x.1.1.0 < 2 ^ 30 = (number_fits x.1.1.0).0 (record { bytes = count.0; is = count.3 }) in
    let instance_list = (times_spelled x.1.1.0 (instance w) x.1.1.1.0).0 (record { bytes = many.0; is = many.3 }) in
    let class_list = (times_spelled x.1.1.0 (class_info w) x.1.1.1.1.0).0 (record { bytes = most.0; is = most.3 }) in
    let script_list = (counted_spelled (script w) x.1.1.1.1.1).0 (record { bytes = most.1; is = most.4 }) in
    let u = sizes_with abc (length x.0) (length x.1.0) (length x.1.1.1.1.0) in
    let same = sym class_list.0 in
    subst AreDefinitions (sym s.is.2) (record {
      method_count = method_list.0;
      methods = λ k d lt. method_beside abc (length x.0) (length x.1.0) (length x.1.1.1.1.0) _ (method_list.1 k d lt);
      metadata_count = metadata_list.0;
      metadata = λ k d lt. metadata_beside abc (length x.0) (length x.1.0) (length x.1.1.1.1.0) _ (metadata_list.1 k d lt);
      class_count = omega (arith, class_list.0, few);
      instance_count = omega (arith, instance_list.0, class_list.0);
      instances = subst (λ (n : ℕ). All (Spelled (instance (sizes_with abc (length x.0) (length x.1.0) n))) x.1.1.1.0) same instance_list.1;
      classes = subst (λ (n : ℕ). All (Spelled (class_info (sizes_with abc (length x.0) (length x.1.0) n))) x.1.1.1.1.0) same class_list.1;
      script_count = script_list.0;
      scripts = subst (λ (n : ℕ). All (Spelled (script (sizes_with abc (length x.0) (length x.1.0) n))) x.1.1.1.1.1) same script_list.1;
    })

definitions_from : (v : Abc) → AreDefinitions v → Spelled (definitions (pools_alone v)) (without_bodies v)
unfolding FitsClass FitsInstance FitsMetadata FitsMethod FitsScript FitsNumber definitions
definitions_from v d =
    let z = sizes_with v 0 0 0 in
    let w = sizes_of v in
    let n = length v.classes in
    let methods = (counted_spelled (method z) v.methods).1 (d.method_count, λ k x lt. method_alone v (length v.methods) (length v.metadata) n _ (d.methods k x lt)) in
    let kept = (counted_spelled (metadata z) v.metadata).1 (d.metadata_count, λ k x lt. metadata_alone v (length v.methods) (length v.metadata) n _ (d.metadata k x lt)) in
    let count = (number_fits n).1 d.class_count in
    let instances = (times_spelled n (instance w) v.instances).1 (d.instance_count, d.instances) in
    let classes = (times_spelled n (class_info w) v.classes).1 (refl, d.classes) in
    let scripts = (counted_spelled (script w) v.scripts).1 (d.script_count, d.scripts) in
    record {
      bytes = methods.bytes ++ (kept.bytes ++ (count.bytes ++ (instances.bytes ++ (classes.bytes ++ scripts.bytes))));
      is = (
        (v.methods, (v.metadata, (n, (v.instances, (v.classes, v.scripts))))),
        (methods.bytes, _, refl, methods.is, (kept.bytes, _, refl, kept.is, (count.bytes, _, refl, count.is, (instances.bytes, _, refl, instances.is, (classes.bytes, scripts.bytes, refl, classes.is, scripts.is))))),
        refl,
      );
    }

pub definitions_fit : (v : Abc) → FitDefinitions v ↔ AreDefinitions v
unfolding FitDefinitions
definitions_fit v = (
  λ s.
      let d = definitions_in (pools_alone v) (without_bodies v) s in
      record { method_count = d.method_count; methods = d.methods; metadata_count = d.metadata_count; metadata = d.metadata; class_count = d.class_count; instance_count = d.instance_count; instances = d.instances; classes = d.classes; script_count = d.script_count; scripts = d.scripts },
  definitions_from v,
)

-- ---- what each table of definitions has to be, over the sizes of the file

module _ (v : Abc) (s : Sizes) (is : s ≡ sizes_of v) where
  pub methods_fit : FitDefinitions v → (length v.methods < 2 ^ 30) × All (FitsMethod s) v.methods
  methods_fit f = let d = (definitions_fit v).0 f in rw is (d.method_count, d.methods)

  pub metadata_fits : FitDefinitions v → (length v.metadata < 2 ^ 30) × All (FitsMetadata s) v.metadata
  metadata_fits f = let d = (definitions_fit v).0 f in rw is (d.metadata_count, d.metadata)

  pub classes_fit : FitDefinitions v → AreClasses s v
  classes_fit f =
      let d = (definitions_fit v).0 f in
      rw is (record { count = d.class_count; both = d.instance_count; instances = d.instances; classes = d.classes })

  pub scripts_fit : FitDefinitions v → (length v.scripts < 2 ^ 30) × All (FitsScript s) v.scripts
  scripts_fit f = let d = (definitions_fit v).0 f in rw is (d.script_count, d.scripts)

  pub all_fit : (length v.methods < 2 ^ 30) × All (FitsMethod s) v.methods → (length v.metadata < 2 ^ 30) × All (FitsMetadata s) v.metadata → AreClasses s v → (length v.scripts < 2 ^ 30) × All (FitsScript s) v.scripts → FitDefinitions v
  all_fit methods metadata classes scripts = (definitions_fit v).1 (record {
    method_count = methods.0;
    methods = subst (λ (t : Sizes). All (FitsMethod t) v.methods) is methods.1;
    metadata_count = metadata.0;
    metadata = subst (λ (t : Sizes). All (FitsMetadata t) v.metadata) is metadata.1;
    class_count = classes.count;
    instance_count = classes.both;
    instances = subst (λ (t : Sizes). All (FitsInstance t) v.instances) is classes.instances;
    classes = subst (λ (t : Sizes). All (FitsClass t) v.classes) is classes.classes;
    script_count = scripts.0;
    scripts = subst (λ (t : Sizes). All (FitsScript t) v.scripts) is scripts.1;
  })

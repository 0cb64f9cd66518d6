-- Some bytes spell the generated file.
use Rattle.std.proofs.Common.{◌≡◌, ℕ, ◌+◌, ◌-◌, ◌*◌, ◌^◌, ◌≤◌, ◌<◌, List, [], ◌∷◌, codes, length, get_or, map, zero, suc, refl, sym, ap, subst, ◌∙◌, arith}
use Rattle.std.specs.Prelude.{All, AllPairs}
use Rattle.std.proofs.lemmas.List.Elements.{All-cons, All-nil}
use Rattle.std.proofs.lemmas.List.FromFn.{get_or-map-range_with_len}
use Rattle.abc_file_types.specs.declared.code.Body.{Body}
use Rattle.abc_file_types.specs.declared.tables.Sizes.{Sizes}
use Rattle.abc_file_types.specs.declared.names.Namespace.{Namespace}
use Rattle.abc_file_types.specs.Bodies.{IsHandlerWithin}
use Rattle.abc_file_types.specs.Classes.{sizes_of}
use Rattle.abc_file_types.specs.Files.{Fits}
use Rattle.abc_file_types.specs.Ready.{IsReady}
use Rattle.abc_tables.specs.Distinct.{Differ}
use Rattle.abc_tables.specs.Fitting.{FitBodies, FitDefinitions, FitPools, FitsBody, FitsClass, FitsDouble, FitsInstance, FitsInt, FitsMetadata, FitsMethod, FitsMultiname, FitsNamespace, FitsNamespaceSet, FitsScript, FitsText, FitsTrait, HasNames}
use Rattle.abc_tables.proofs.BodiesFit.{bodies_fit, body_fits}
use Rattle.abc_tables.proofs.ClassesFit.{script_fits}
use Rattle.abc_tables.proofs.Combined.{entry_index_fits, number_fits, pool_index_fits, position_fits, text_fits}
use Rattle.abc_tables.proofs.DefinitionsFit.{definitions_fit}
use Rattle.abc_tables.proofs.FileFits.{file_fits, tables_fit}
use Rattle.abc_tables.proofs.MethodsFit.{method_fits, names_unasked, options_unasked}
use Rattle.abc_tables.proofs.PoolsFit.{doubles_fit, ints_fit, multiname_fits, multinames_fit, namespace_fits, namespace_sets_fit, namespaces_fit, pools_fit, texts_fit, uints_fit}
use Rattle.abc_tables.proofs.TraitsFit.{fields_fit, metadata_unasked, trait_fits, traits_fit}
use Rattle.abc_cli_answers.specs.Draws.{draws_after}
use Rattle.abc_cli_answers.specs.Generated.{generated_body, first_body, function_body, function_name, function_signature, function_trait, generated_file, one_to, public_name, public_space, generated_script, signature, generated_texts}
use Rattle.abc_cli_answers.proofs.Ready.{drawn_ready, first_ready}
use Rattle.abc_cli_answers.proofs.Short.{all_made, file_short, made_length, name_length}

module _ (seed m : ℕ) (few : m ≤ 10000) where
  abbrev sizes : Sizes
  sizes = sizes_of (generated_file seed m)

  strings_are : length (generated_texts m) ≡ m + 2
  strings_are = omega (arith, made_length function_name m)

  names_are : length (map public_name (one_to (m + 2))) ≡ m + 2
  names_are = made_length public_name (m + 2)

  methods_are : length (signature 0 [] ∷ map function_signature (one_to m)) ≡ m + 1
  methods_are = omega (arith, made_length function_signature m)

  texts_all : All FitsText (generated_texts m)
  texts_all =
      All-cons FitsText (codes "trace") (codes "int" ∷ map function_name (one_to m)) ((text_fits (codes "trace")).1 (omega arith))
      (All-cons FitsText (codes "int") (map function_name (one_to m)) ((text_fits (codes "int")).1 (omega arith))
      (all_made FitsText function_name m (λ i low high. (text_fits (function_name i)).1 (omega (arith, name_length i (omega arith))))))

  name_at : (i : ℕ) → 0 < i → i ≤ m + 2 → FitsMultiname sizes (public_name i)
  name_at i low high =
      (multiname_fits sizes (public_name i)).1 ((pool_index_fits _ 1).1 (omega arith, omega arith), (pool_index_fits _ i).1 (omega (arith, strings_are), omega arith))

  abbrev FitsSpace : Namespace → Type 0
  FitsSpace = FitsNamespace (length (generated_texts m))

  pools_are : FitPools (generated_file seed m)
  pools_are = (pools_fit (generated_file seed m)).1 (record {
    ints = (ints_fit []).1 (omega arith, All-nil FitsInt);
    uints = (uints_fit [] (λ i. omega arith)).1 (omega arith);
    doubles = (doubles_fit []).1 (omega arith, All-nil FitsDouble);
    strings = (texts_fit (generated_texts m)).1 (omega (arith, strings_are), texts_all);
    namespaces = (namespaces_fit (length (generated_texts m)) (public_space ∷ [])).1 (omega arith, All-cons FitsSpace public_space [] ((namespace_fits (length (generated_texts m)) public_space).1 ((pool_index_fits (length (generated_texts m)) 0).1 (omega arith, omega arith))) (All-nil FitsSpace));
    sets = (namespace_sets_fit 1 []).1 (omega arith, All-nil (FitsNamespaceSet 1));
    names = (multinames_fit sizes (map public_name (one_to (m + 2))) refl).1 (omega (arith, names_are), all_made (FitsMultiname sizes) public_name (m + 2) name_at);
  })

  signature_fits : (type : ℕ) (parameters : List ℕ) → type ≤ m + 2 → length parameters < 2 ^ 30 → All (λ x. x ≤ m + 2) parameters → FitsMethod sizes (signature type parameters)
  signature_fits type parameters low short all =
      (method_fits sizes (signature type parameters)).1 (
        short,
        (pool_index_fits _ type).1 (omega (arith, names_are), omega arith),
        λ k d lt. (pool_index_fits _ _).1 (omega (arith, names_are, all k d lt), omega (arith, all k d lt)),
        (pool_index_fits _ 0).1 (omega arith, omega arith),
        (options_unasked sizes (signature type parameters) refl).1 refl,
        (names_unasked (signature type parameters) refl).1 refl,
      )

  trait_at : (i : ℕ) → 0 < i → i ≤ m → FitsTrait sizes (function_trait i)
  trait_at i low high =
      (trait_fits sizes (function_trait i)).1 (
        (entry_index_fits _ (i + 2)).1 (omega arith, omega (arith, names_are), omega arith),
        omega arith,
        (fields_fit sizes (function_trait i).body).1 ((number_fits 0).1 (omega arith), (position_fits _ i).1 (omega (arith, methods_are), omega arith)),
        (metadata_unasked sizes (function_trait i) refl).1 refl,
      )

  script_at : FitsScript sizes (generated_script m)
  script_at =
      (script_fits sizes (generated_script m)).1 (
        (position_fits _ 0).1 (omega (arith, methods_are), omega arith),
        (traits_fit sizes (map function_trait (one_to m))).1 (omega (arith, made_length function_trait m), all_made (FitsTrait sizes) function_trait m trait_at),
      )

  definitions_are : FitDefinitions (generated_file seed m)
  definitions_are = (definitions_fit (generated_file seed m)).1 (record {
    method_count = omega (arith, methods_are);
    methods =
        All-cons (FitsMethod sizes) (signature 0 []) (map function_signature (one_to m)) (signature_fits 0 [] (omega arith) (omega arith) (All-nil (λ x. x ≤ m + 2)))
        (all_made (FitsMethod sizes) function_signature m (λ i low high. signature_fits 2 (2 ∷ []) (omega arith) (omega arith) (All-cons (λ x. x ≤ m + 2) 2 [] (omega arith) (All-nil (λ x. x ≤ m + 2)))));
    metadata_count = omega arith;
    metadata = All-nil (FitsMetadata sizes);
    class_count = omega arith;
    instance_count = refl;
    instances = All-nil (FitsInstance sizes);
    classes = All-nil (FitsClass sizes);
    script_count = omega arith;
    scripts = All-cons (FitsScript sizes) (generated_script m) [] script_at (All-nil (FitsScript sizes));
  })

  body_at : (i locals scopes : ℕ) (b : Body) → i ≤ m → locals < 2 ^ 30 → scopes < 2 ^ 30 → b ≡ generated_body i locals scopes b.code → IsReady b.code → FitsBody sizes b
  body_at i locals scopes b high few_locals few_scopes e ready = subst (FitsBody sizes) (sym e) (
      (body_fits sizes (generated_body i locals scopes b.code)).1 (
        (position_fits _ i).1 (omega (arith, methods_are), omega arith),
        record {
          max_stack = (number_fits 2).1 (omega arith);
          local_count = (number_fits locals).1 few_locals;
          init_scope = (number_fits 0).1 (omega arith);
          max_scope = (number_fits scopes).1 few_scopes;
        },
        record { code = ready; places = All-nil (IsHandlerWithin (length b.code)) },
        omega arith,
        All-nil (HasNames sizes),
        (traits_fit sizes []).1 (omega arith, All-nil (FitsTrait sizes)),
      ))

  abbrev all_bodies : List Body
  all_bodies = first_body m ∷ map (function_body seed) (one_to m)

  method_of : (k : ℕ) (d : Body) → k < length all_bodies → (get_or all_bodies k d).method ≡ k
  method_of zero d lt = refl
  method_of (suc k) d lt =
      let within : k < m = omega (arith, lt, made_length (function_body seed) m) in
      ap (λ (b : Body). b.method) (get_or-map-range_with_len (function_body seed) 1 m k (k + 1) d within (omega arith)) ∙ omega arith

  different : AllPairs Differ all_bodies
  different i j d less lt e = absurd (omega (arith, method_of i d (omega arith), method_of j d lt, e))

  bodies_are : FitBodies (generated_file seed m)
  bodies_are = (bodies_fit (generated_file seed m)).1 (
    omega (arith, made_length (function_body seed) m),
    All-cons (FitsBody sizes) (first_body m) (map (function_body seed) (one_to m)) (body_at 0 2 1 (first_body m) (omega arith) (omega arith) (omega arith) refl (first_ready m few))
        (all_made (FitsBody sizes) (function_body seed) m (λ i low high. body_at i 3 0 (function_body seed i) high (omega arith) (omega arith) refl (drawn_ready (draws_after seed (3 * (i - 1)))))),
    different,
  )

  pub generated_fits : Fits (generated_file seed m)
  generated_fits = (file_fits (generated_file seed m)).1 (file_short m seed few, (tables_fit (generated_file seed m)).1 (pools_are, definitions_are, bodies_are))

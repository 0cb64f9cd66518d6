-- The tidied value of a file, and the first rule that is broken.
use Rattle.std.proofs.Common.{◌≡◌, ℕ, zero, suc, ◌<◌, ◌≤◌, ◌⊎◌, inl, inr, All, List, [], ◌∷◌, length, get_or, Ok, Err, Some, None, refl, sym, ap, subst, ◌∙◌, arith}
use Rattle.std.proofs.lemmas.Bool.{cases_lt}
use Rattle.std.proofs.lemmas.List.{get_or_past}
use Rattle.std.specs.Result.{MatchResult}
use Rattle.std.specs.declared.option.Option.{Option}
use Rattle.std.specs.declared.result.Result.{Result}
use Rattle.abc_tidy_refs.specs.declared.nodes.Counts.{Counts}
use Rattle.abc_tidy_refs.specs.declared.nodes.Numbers.{Numbers}
use Rattle.abc_tidy_refs.specs.Nodes.{counts_of, new_index}
use Rattle.abc_tidy_refs.specs.Renumbered.{beside, new_file}
use Rattle.abc_file_types.specs.declared.tables.Abc.{Abc}
use Rattle.abc_file_types.specs.Files.{Fits}
use Rattle.abc_base_trees.specs.declared.heads.Head.{Head}
use Rattle.abc_base_trees.specs.declared.keys.Key.{Key}
use Rattle.abc_base_trees.specs.Alike.{AreAlike}
use Rattle.abc_base_trees.specs.Classes.{AllClassed, AreTreeClasses}
use Rattle.abc_base_trees.specs.Visits.{IsVisited}
use Rattle.abc_base_trees.proofs.Alike.{visited_alike}
use Rattle.abc_tidy_entries.specs.declared.error.TidyError.{TidyError}
use Rattle.abc_tidy_entries.specs.declared.error.TidyError.TheVariants as errors
use Rattle.abc_tidy_entries.specs.declared.error.TidyRule.TheVariants as rules
use Rattle.abc_tidy_entries.specs.Entries.{graph_of, heads_of}
use Rattle.abc_tidy_entries.specs.Firsts.{IsFirstCyclic}
use Rattle.abc_tidy_entries.specs.NewPools.{new_pools}
use Rattle.abc_tidy.specs.Planned.{IsPlan}
use Rattle.abc_tidy_entries.specs.Rules.{HoldsTidyRule, IsFirstTidyBroken, IsTidied, IsTidyError}
use Rattle.abc_tidy_entries.specs.Visited.{NumberNodes, IsTidiedValue, roots_of}

-- those that have classes are nodes
all_nodes : (graph : List (List ℕ)) (classes : List (Option ℕ)) (xs : List ℕ) → length classes ≡ length graph → AllClassed classes xs → All (λ x. x < length graph) xs
all_nodes graph classes [] len h k d lt = absurd (none k lt)
  where
    none : (k : ℕ) → k < 0 → ⊥
    none k l = omega arith
all_nodes graph classes (x ∷ xs) len h zero d lt = go (cases_lt x (length classes))
  where
    go : (x < length classes) ⊎ (length classes ≤ x) → x < length graph
    go (inl l) = omega arith
    go (inr le) = absurd (some_none (get_or_past classes x None le) h.0.is)
      where
        some_none : {o : Option ℕ} {n : ℕ} → o ≡ None → o ≡ Some n → ⊥
        some_none a b = cc
all_nodes graph classes (x ∷ xs) len h (suc k) d lt = all_nodes graph classes xs len h.1 k d (omega arith)

abbrev pub with_numbers : Counts → List ℕ → Numbers
with_numbers c numbers = record { counts = c; numbers = numbers }

pub tidied_value : (v pools t : Abc) (c : Counts) (heads : List Head) (graph : List (List ℕ)) (roots seen numbers : List ℕ) → c ≡ counts_of v → graph ≡ graph_of v → roots ≡ roots_of v → (keys : List Key) (classes : List (Option ℕ)) → AreAlike classes heads (heads_of v) → AreTreeClasses heads graph keys classes → AllClassed classes roots → AllClassed classes seen → IsVisited heads graph roots seen → NumberNodes v seen numbers → pools ≡ new_pools (with_numbers c numbers) v seen → t ≡ beside (new_file (new_index (with_numbers c numbers)) v) pools → IsTidiedValue v t
tidied_value v pools t c heads graph roots seen numbers counts f g keys classes alike valid rooted classed visited numbered made is = record {
  seen = seen;
  numbers = numbers;
  nodes = subst (λ gr. All (λ x. x < length gr) seen) f (all_nodes graph classes seen valid.len classed);
  visited = subst (λ gr. IsVisited (heads_of v) gr (roots_of v) seen) f (subst (λ rs. IsVisited (heads_of v) graph rs seen) g (visited_alike classes heads (heads_of v) graph roots seen alike (λ x h. valid.closed x h.number h.is) rooted classed visited));
  numbered = numbered;
  is = is ∙ ap (beside (new_file (new_index (with_numbers c numbers)) v)) made ∙ ap (λ k. beside (new_file (new_index (with_numbers k numbers)) v) (new_pools (with_numbers k numbers) v seen)) counts;
}

-- ---- the rules

pub refused_name : (v : Abc) (i : ℕ) → HoldsTidyRule v rules.Operand → HoldsTidyRule v rules.ParamName → IsFirstCyclic v (Some i) → IsFirstTidyBroken v rules.NameCycle i
refused_name v i a b f = record { before = (a, b); broken = f.0; least = f.1 }

pub no_name : (v : Abc) → IsFirstCyclic v None → HoldsTidyRule v rules.NameCycle
no_name v f = f

-- the file that the plan makes
pub planned : (v new t pools : Abc) (f : Numbers) → IsPlan v f pools → new ≡ new_file (new_index f) v → t ≡ beside new pools → IsTidiedValue v t
planned v new t pools f p e is = subst (IsTidiedValue v) (sym (is ∙ ap (λ w. beside w pools) e)) p.value

pub done : (v new t pools : Abc) (f : Numbers) → IsPlan v f pools → new ≡ new_file (new_index f) v → t ≡ beside new pools → Fits t → IsTidied v t
done v new t pools f p e is fits = record { operands = p.operands; param_names = p.param_names; names = p.names; value = planned v new t pools f p e is; fits = fits }

pub too_large : (v new t pools : Abc) (f : Numbers) → IsPlan v f pools → new ≡ new_file (new_index f) v → t ≡ beside new pools → (Fits t → ⊥) → IsFirstTidyBroken v rules.TooLarge 0
too_large v new t pools f p e is unfit = record {
  before = (p.operands, p.param_names, p.names);
  broken = record { zero = refl; tidied = t; is = planned v new t pools f p e is; unfit = unfit };
  least = λ j lt h. none j lt;
}
  where
    none : (j : ℕ) → j < 0 → ⊥
    none j lt = omega arith

-- what the plan makes is the answer where some bytes spell it
pub spelled_or_not : (v w pools : Abc) (f : Numbers) (r : Result Abc TidyError) → IsPlan v f pools → w ≡ beside (new_file (new_index f) v) pools → MatchResult r (λ t. (t ≡ w) × Fits w) (λ e. (e ≡ errors.Refused rules.TooLarge 0) × (Fits w → ⊥)) → MatchResult r (IsTidied v) (IsTidyError v)
spelled_or_not v w pools f (Ok t) p is h = done v (new_file (new_index f) v) t pools f p refl (h.0 ∙ is) (subst Fits (sym h.0) h.1)
spelled_or_not v w pools f (Err e) p is h = subst (IsTidyError v) (sym h.0) (too_large v (new_file (new_index f) v) w pools f p refl is h.1)

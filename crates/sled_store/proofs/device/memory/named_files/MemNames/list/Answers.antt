-- The names that were told are those that have a file.
use Rattle.std.proofs.Common.{◌≡◌, ◌++◌, ◌∙◌, [], List, ℤ, Vec, Contains, IsSome, ◌↔◌, ap, sym, subst, append-nil, rules}
use Rattle.std.specs.Ordering.{int_cmp}
use Rattle.std.specs.List.Sorted.{IsStrictlySortedBy}
use Rattle.std.specs.declared.alloc.Global.{Global}
use Rattle.sled_store.specs.declared.device.memory.named_files.version.FileVersion.{FileVersion}
use Rattle.sled_store.proofs.Names.KeepsLemmas.{listed, listed_iff, listed_ascends}
use Rattle.sled_store.proofs.device.memory.named_files.MemNames.list.Goals as goal

pub returns-clause-names : goal.returns-clause-names
returns-clause-names c = λ s keeps n.
    let told : List ℤ = c.loop-name.names.items in
    let ended : c.loop-name.name-iterator ≡ [] = search rules in
    let all : told ≡ listed c.args.self.now.kept.entries = sym (append-nil told) ∙ ap (λ (es : List (ℤ × Vec FileVersion Global)). told ++ listed es) (sym ended) ∙ c.loop-name.invariant in
    subst (λ (ns : List ℤ). IsSome (s.file n) ↔ Contains ns n) (sym all) (listed_iff c.args.self.now s n keeps c.into_iter-name-iterator.ensures.into_iter_gives.5)

pub returns-clause-ascending : goal.returns-clause-ascending
returns-clause-ascending c =
    let told : List ℤ = c.loop-name.names.items in
    let ended : c.loop-name.name-iterator ≡ [] = search rules in
    let all : told ≡ listed c.args.self.now.kept.entries = sym (append-nil told) ∙ ap (λ (es : List (ℤ × Vec FileVersion Global)). told ++ listed es) (sym ended) ∙ c.loop-name.invariant in
    subst (IsStrictlySortedBy int_cmp) (sym all) (listed_ascends c.args.self.now.kept.entries c.into_iter-name-iterator.ensures.into_iter_gives.5)

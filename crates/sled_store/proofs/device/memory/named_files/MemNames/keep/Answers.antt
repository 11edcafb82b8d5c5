-- What is left of the map is what was under offered names.
use Rattle.std.proofs.Common.{◌≡◌, ◌∙◌, ap, refl, sym, Bool, true, false, if◌then◌else◌, cond, is_some, List, ℤ, Vec, Option, None, [], rules}
use Rattle.std.specs.Ordering.{int_cmp}
use Rattle.std.specs.Map.{lookup}
use Rattle.std.specs.BTreeMap.{is_at}
use Rattle.std.specs.declared.alloc.Global.{Global}
use Rattle.std.proofs.lemmas.Map.Entries.{lookup-filter-keys}
use Rattle.std.proofs.lemmas.Map.Made.{filter_same_pairs}
use Rattle.sled_store.specs.declared.device.memory.named_files.version.FileVersion.{FileVersion}
use Rattle.sled_store.specs.Device.{file_named}
use Rattle.sled_store.specs.Noted.{files_of}
use Rattle.sled_store.specs.inside.MemoryNames.{files_found}
use Rattle.sled_store.proofs.Names.KeepsLemmas.{at_same}
use Rattle.sled_store.proofs.device.memory.named_files.MemNames.keep.Goals as goal

pub returns : goal.returns
returns c = λ n.
    let old : List (ℤ × Vec FileVersion Global) = c.args.self.now.kept.entries in
    let stays : ℤ → Bool = λ k. is_some (file_named (files_of c.args.files.now.items) k) in
    let left = filter_same_pairs _ (λ (e : ℤ × Vec FileVersion Global). stays e.0) _ (λ k v b w g t. (search rules, search rules, search rules)) old c.retain.new.self.entries c.retain.ensures.filtered in
    ap (λ (es : List (ℤ × Vec FileVersion Global)). files_found (lookup (is_at (int_cmp n)) es)) left
    ∙ ap (λ (o : Option (Vec FileVersion Global)). files_found o) (lookup-filter-keys (is_at (int_cmp n)) stays (stays n) (λ k at. ap stays (sym (at_same n k at))) old)
    ∙ (elim (stays n) as (λ b. files_found (cond b (lookup (is_at (int_cmp n)) old) None) ≡ (if b then files_found (lookup (is_at (int_cmp n)) old) else [])) [ true ↦ refl | false ↦ refl ])

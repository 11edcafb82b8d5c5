-- One more file is put.
use Rattle.std.proofs.Common.{◌≡◌, ◌<◌, ◌++◌, ◌∷◌, [], ap, sym, ◌∙◌, subst, refl, ℤ, ℕ, List, Vec, Option, Some, is_some, length, true, rules, to_z, of_z, w64}
use Rattle.std.specs.declared.alloc.Global.{Global}
use Rattle.std.specs.Ordering.{int_eq}
use Rattle.sled_store.specs.declared.device.memory.named_files.version.FileVersion.{FileVersion}
use Rattle.sled_store.specs.Device.{file_named}
use Rattle.sled_store.specs.Noted.{files_of}
use Rattle.sled_store.specs.inside.MemoryNames.{states_of, firm, files_under}
use Rattle.sled_store.proofs.Names.TakenLemmas.{put_more, named-last}
use Rattle.sled_store.proofs.device.memory.named_files.MemNames.put_all.Goals as goal

pub loop-file-init : goal.loop-file-init
loop-file-init c = record {
  made = c.requires.made;
  same = λ n some. refl;
  done = λ n none. ap (λ (xs : List FileVersion). states_of xs) (c.requires.others n none) ∙ ap (λ (o : Option (List ℕ)). firm o ∷ []) (sym none);
}

pub put-requires : goal.put-requires
put-requires c =
    let f : ℤ × Vec ℕ Global = c.in-Some.file in
    let is : to_z w64 (of_z w64 f.0) ≡ f.0 = search rules in
    let popped : c.loop-file.files.items ≡ c.pop.new.self.items ++ f ∷ [] = c.in-Some.ensures.items in
    let there : is_some (file_named (files_of c.loop-file.files.items) f.0) ≡ true = ap (λ (xs : List (ℤ × Vec ℕ Global)). is_some (file_named (files_of xs) f.0)) popped ∙ named-last c.pop.new.self.items f in
    subst (λ (m : ℤ). 0 < length (files_under c.loop-file.self.kept m)) (sym is) (c.loop-file.invariant.made f.0 there)

pub loop-file-preserved : goal.loop-file-preserved
loop-file-preserved c =
    let f : ℤ × Vec ℕ Global = c.in-Some.file in
    let is : to_z w64 (of_z w64 f.0) ≡ f.0 = search rules in
    put_more c.loop-file.self.kept c.put.new.self.kept c.loop-file.files.items c.pop.new.self.items f _ c.in-Some.ensures.items
    (subst (λ (m : ℤ). states_of (files_under c.put.new.self.kept m) ≡ firm (Some f.1.items) ∷ []) is c.put.ensures.here)
    (subst (λ (m : ℤ). 0 < length (files_under c.put.new.self.kept m)) is c.put.ensures.made)
    (λ n other. c.put.ensures.others n (ap (λ (m : ℤ). int_eq m n) is ∙ other))
    c.loop-file.invariant

pub returns : goal.returns
returns c = λ n.
    let empty : c.loop-file.files.items ≡ [] = search rules in
    c.loop-file.invariant.done n (ap (λ (xs : List (ℤ × Vec ℕ Global)). file_named (files_of xs) n) empty)

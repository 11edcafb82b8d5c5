-- What is laid out for a reservation is the placeholder of its record, and the message that it is for is the one that was asked for.
use Rattle.std.proofs.Common.{◌≡◌, ◌≢◌, ◌≤◌, ◌<◌, ◌+◌, ◌-◌, ◌^◌, ℕ, zero, suc, List, [], ◌∷◌, ◌++◌, length, take, drop, sym, ◌∙◌, ap, arith, refl, subst, append_assoc, length-append, length-drop, true, false, Bool, if◌then◌else◌, ◌==◌, replicate, None, Some, not, is_some, ◌&&◌}
use Rattle.std.specs.List.{slice_get}
use Rattle.std.proofs.lemmas.Bool.Decides.{nat_tests}
use Rattle.std.proofs.lemmas.List.{drop_at, take_all, drop-drop}
use Rattle.sled_codec.specs.declared.serialization.message.LogKind.{LogKind}
use Rattle.sled_codec.specs.declared.serialization.message.LogKind.TheVariants as does
use Rattle.sled_codec.specs.declared.serialization.message.MessageKind.{MessageKind}
use Rattle.sled_codec.specs.declared.serialization.message.MessageKind.TheVariants.{BatchManifest, Canceled, Cap, Corrupted}
use Rattle.sled_codec.specs.Kinds.{kind_written}
use Rattle.sled_codec.specs.Places.{part}
use Rattle.sled_codec.specs.Sums.{flipped}
use Rattle.sled_codec.specs.Spelling.{short_header_tail}
use Rattle.sled_codec.specs.Record.{record_sum, short_record}
use Rattle.sled_codec.specs.History.{Message}
use Rattle.sled_core.specs.declared.iobuf.Reserved.{Reserved}
use Rattle.sled_core.specs.declared.iobuf.Purpose.{Purpose}
use Rattle.sled_core.specs.declared.iobuf.SegmentPosition.{SegmentPosition}
use Rattle.sled_core.specs.Manifests.{is_manifest, kind_for, manifest_page}
use Rattle.sled_core.specs.inside.Buffers.{SpellsBlob, text_in, placeholder, placeholder_head, reserved_for, HasText, StandsAs}
use Rattle.sled_core.specs.Buffers.{body_in, item_as, pointer_as, message_in, record_size}
use Rattle.sled_core.proofs.Reserve.Heads.{length-short_header_tail}

-- no message is written as damage, nor as one that was given up, nor as the end of a segment
abbrev IsOwnKind : MessageKind → Type 0
IsOwnKind k = (k ≢ Corrupted) × (k ≢ Canceled) × (k ≢ Cap)

-- nor is a message written as a manifest
abbrev IsPlainKind : MessageKind → Type 0
IsPlainKind k = IsOwnKind k × (k ≢ BatchManifest)

some_kind : (b c : Bool) (x y z k : MessageKind) → IsPlainKind x → IsPlainKind y → IsPlainKind z → (if b then Some x else if c then Some y else Some z) ≡ Some k
    → IsPlainKind k
some_kind true c x y z k own_x own_y own_z is = let same : x ≡ k = cc in subst IsPlainKind same own_x
some_kind false true x y z k own_x own_y own_z is = let same : y ≡ k = cc in subst IsPlainKind same own_y
some_kind false false x y z k own_x own_y own_z is = let same : z ≡ k = cc in subst IsPlainKind same own_z

written_valid : (does_it : LogKind) (page : ℕ) (blob : Bool) (kind : MessageKind) → kind_written does_it page blob ≡ Some kind → IsPlainKind kind
written_valid does.Replace page true kind is = some_kind (page == 1) (page == 0) _ _ _ kind ((λ e. cc, λ e. cc, λ e. cc), λ e. cc) ((λ e. cc, λ e. cc, λ e. cc), λ e. cc) ((λ e. cc, λ e. cc, λ e. cc), λ e. cc) is
written_valid does.Replace page false kind is = some_kind (page == 1) (page == 0) _ _ _ kind ((λ e. cc, λ e. cc, λ e. cc), λ e. cc) ((λ e. cc, λ e. cc, λ e. cc), λ e. cc) ((λ e. cc, λ e. cc, λ e. cc), λ e. cc) is
written_valid does.Link page true kind is = ((λ bad. cc, λ bad. cc, λ bad. cc), λ bad. cc)
written_valid does.Link page false kind is = ((λ bad. cc, λ bad. cc, λ bad. cc), λ bad. cc)
written_valid does.Free page true kind is = ((λ bad. cc, λ bad. cc, λ bad. cc), λ bad. cc)
written_valid does.Free page false kind is = ((λ bad. cc, λ bad. cc, λ bad. cc), λ bad. cc)
written_valid does.Skip page blob kind is = ((λ bad. cc, λ bad. cc, λ bad. cc), λ bad. cc)
written_valid does.Corrupted page blob kind is = ((λ bad. cc, λ bad. cc, λ bad. cc), λ bad. cc)

-- nor is a manifest
pub kind_valid : (does_it : LogKind) (page : ℕ) (blob : Bool) (n : ℕ) (kind : MessageKind) → kind_for does_it page blob n ≡ Some kind → IsOwnKind kind
kind_valid does_it page blob n kind = by (is_manifest does_it page) (not blob && n == 8) where
  by : (o e : Bool) → (if o then (if e then Some BatchManifest else None) else kind_written does_it page blob) ≡ Some kind → IsOwnKind kind
  by true true is = (λ bad. cc, λ bad. cc, λ bad. cc)
  by true false is = cc
  by false e is = (written_valid does_it page blob kind is).0

-- which is of the page of manifests.
pub manifest_there : (does_it : LogKind) (page : ℕ) (blob : Bool) (n : ℕ) (kind : MessageKind) → kind_for does_it page blob n ≡ Some kind → kind ≡ BatchManifest
    → page ≡ manifest_page
manifest_there does.Skip page blob n kind known is = by (page == manifest_page) refl known where
  by : (o : Bool) → (page == manifest_page) ≡ o → (if o then (if not blob && n == 8 then Some BatchManifest else None) else kind_written does.Skip page blob) ≡ Some kind
      → page ≡ manifest_page
  by true same known = grind (arith, nat_tests, same)
  by false same known = absurd ((written_valid does.Skip page blob kind known).1 is)
manifest_there does.Replace page blob n kind known is = absurd ((written_valid does.Replace page blob kind known).1 is)
manifest_there does.Link page blob n kind known is = absurd ((written_valid does.Link page blob kind known).1 is)
manifest_there does.Free page blob n kind known is = absurd ((written_valid does.Free page blob kind known).1 is)
manifest_there does.Corrupted page blob n kind known is = absurd ((written_valid does.Corrupted page blob kind known).1 is)

-- the last one is there
pub there_last : {X : Type 0} (xs : List X) (x : X) → slice_get (xs ++ x ∷ []) (length xs) ≡ Some x
there_last [] x = refl
there_last (y ∷ ys) x = there_last ys x

-- one that is there stays there
pub there_append : {X : Type 0} (xs ys : List X) (i : ℕ) (x : X) → slice_get xs i ≡ Some x → slice_get (xs ++ ys) i ≡ Some x
there_append [] ys i x there = cc
there_append (y ∷ xs) ys zero x there = there
there_append (y ∷ xs) ys (suc i) x there = there_append xs ys i x there

module _ (sum : List ℕ → ℕ) (number : ℕ) (bytes head item : List ℕ) (kept : Purpose) (known : kind_for kept.log_kind kept.page (is_some kept.blob) (length item) ≡ Some kept.kind) (spells : SpellsBlob kept.blob item) (small : kept.page < 2 ^ 64)
    (tail : drop 4 head ≡ short_header_tail kept.kind (length item) number kept.page) (long : length head ≡ 4 + length (short_header_tail kept.kind (length item) number kept.page)) where
  abbrev more : List ℕ
  more = placeholder_head head ++ item

  abbrev reserved : Reserved
  reserved = reserved_for kept (length bytes) (length head) (length item) (sum (item ++ drop 4 head))

  head_long : 5 ≤ length head
  head_long = omega (arith, long, length-short_header_tail kept.kind (length item) number kept.page)

  placeholder_long : length (placeholder_head head) ≡ length head
  placeholder_long = omega (arith, head_long, length-drop 5 head)

  pub more_long : length more ≡ length head + length item
  more_long = omega (arith, placeholder_long, length-append (placeholder_head head) item)

  body_is : body_in (bytes ++ more) reserved ≡ item
  body_is =
      let front : length (bytes ++ placeholder_head head) ≡ length bytes + length head = omega (arith, placeholder_long, length-append bytes (placeholder_head head)) in
      ap (λ (l : List ℕ). part l (length bytes + length head) (length head + length item - length head)) (sym (append_assoc bytes (placeholder_head head) item))
      ∙ ap (take (length head + length item - length head)) (drop_at (bytes ++ placeholder_head head) item (length bytes + length head) front)
      ∙ take_all (length head + length item - length head) item (omega arith)

  text_is : text_in (bytes ++ more) reserved ≡ more
  text_is = ap (take (length head + length item)) (drop_at bytes more (length bytes) refl) ∙ take_all (length head + length item) more (omega (arith, more_long))

  placeholder_is : more ≡ placeholder (short_record sum kept.kind kept.page number item)
  unfolding short_record short_header_tail
  placeholder_is =
      let behind : drop 5 head ≡ drop 1 (short_header_tail kept.kind (length item) number kept.page) = sym (drop-drop 1 4 head) ∙ ap (drop 1) tail in
      ap (λ (l : List ℕ). replicate 5 0 ++ l ++ item) behind

  pub stands : HasText sum number (bytes ++ more) reserved
  unfolding record_sum
  stands =
      let as_item : StandsAs sum number (text_in (bytes ++ more) reserved) item reserved = record {
        headed = head_long;
        long = omega arith;
        known = known;
        names = spells;
        whole = λ is. cc;
        manifest = λ is. cc;
        pegged = λ is. cc;
        valid = (kind_valid kept.log_kind kept.page (is_some kept.blob) (length item) kept.kind known).0;
        page = small;
        summed = λ _. ap (λ (l : List ℕ). flipped (sum (item ++ l))) tail;
        counted = long;
        is = text_is ∙ placeholder_is;
      } in
      subst (λ (b : List ℕ). StandsAs sum number (text_in (bytes ++ more) reserved) b reserved) (sym body_is) as_item

  pub message_is : (site : SegmentPosition)
      → record { kind = kept.log_kind; page = kept.page; place = site.place + length bytes; pointer = pointer_as kept.blob (site.slot + length bytes); size = record_size number kept.page (length item); bytes = item_as kept.blob item } ≡ message_in site (bytes ++ more) reserved
  message_is site =
      let size : record_size number kept.page (length item) ≡ length head + length item = omega (arith, long, length-short_header_tail kept.kind (length item) number kept.page) in
      let m : ℕ → Message = λ n. record { kind = kept.log_kind; page = kept.page; place = site.place + length bytes; pointer = pointer_as kept.blob (site.slot + length bytes); size = n; bytes = item_as kept.blob item } in
      ap m size ∙ ap (λ (l : List ℕ). record (message_in site (bytes ++ more) reserved) { bytes = item_as kept.blob l }) (sym body_is)

-- the whole header, by its length behind the sum
pub head_whole : (head : List ℕ) (kind : MessageKind) (len number page : ℕ) → drop 4 head ≡ short_header_tail kind len number page → length head ≡ 4 + length (short_header_tail kind len number page)
head_whole head kind len number page is = omega (arith, ap length is, length-drop 4 head, length-short_header_tail kind len number page)

use Rattle.std.proofs.Common.{◌≡◌, ◌+◌, ◌-◌, ◌*◌, ◌^◌, ◌<◌, ◌≤◌, nat_lt, rules, ℕ, ℤ, pos, Bool, List, true, false, length, take, refl, ap, sym, subst, arith}
use Rattle.std.specs.List.{All}
use Rattle.sled_codec.specs.Record.{IsHeader}
use Rattle.sled_store.specs.declared.config.Config.{Config}
use Rattle.sled_store.specs.Device.{state_of}
use Rattle.sled_core.specs.Reading.{file_of}
use Rattle.sled_core.specs.declared.iterator.Segment.{Segment}
use Rattle.sled_core.specs.declared.iterator.scan.ScannedRecord.{ScannedRecord}
use Rattle.sled_core.specs.declared.iterator.rest.Rest.{Rest}
use Rattle.sled_core.specs.Replayed.{NamesKind, scanned_of}
use Rattle.sled_core.specs.Ahead.{CanGoOn, HasEnds}
use Rattle.sled_core.specs.inside.Ahead.{IsLeft, items_at, most_left, read_behind}
use Rattle.sled_core.proofs.Iterates.Headers.{begins_inside, none_missing, none_stands, not_found}
use Rattle.sled_core.proofs.Iterates.Slots.{replayed_whole, damaged_behind_whole}
use Rattle.sled_core.proofs.Iterates.Kinds.{path_kinds}
use Rattle.sled_core.proofs.Iterates.KeptLemmas.{met_given, read_there}
use Rattle.sled_core.proofs.Iterates.LeftLemmas.{left_finished, next_inside, segment_damaged, segment_kept, segment_missing}
use Rattle.sled_core.proofs.Iterates.Spent.{no_more_left}
use Rattle.sled_core.proofs.iterator.rest.Rest.read_segment.Goals as goal

-- a damaged record is one item at most
at_most_one : (b : Bool) → items_at b ≤ 1
at_most_one true = omega arith
at_most_one false = omega arith

-- what is met in one segment is less than what counts for it
few_more : (all read met old : ℕ) (b d : Bool) → read < all → met < 2 ^ 64 → (all - all) * 2 ^ 64 + (met - 0) + items_at b ≤ (all - read) * 2 ^ 64 + old + items_at d
few_more all read met old b d more small = let one = at_most_one b in omega (arith, more, small, one)

pub returns-then-not-finds-clause-ahead : goal.returns-then-not-finds-clause-ahead
returns-then-not-finds-clause-ahead g c = λ items damage left.
    let r : Rest = c.args.self.now in
    let cfg : Config = c.args.config.now.config in
    let log : List ℕ = (state_of (g.D.Device.trace c.args.config.now.device)).log.bytes in
    let s : Segment = c.index.result.now in
    let least = cfg.least in
    let bytes : List ℕ = c.in-Ok.buf.buf.items in
    let none = not_found r.strict ((mark : ℤ) × IsHeader g.C.Checksum.sum_of (take 20 bytes) (pos s.place) mark) c.finds.result c.if-not-finds.true c.finds.ensures in
    let missing = none_stands g.C.Checksum.sum_of cfg.segment_size (omega (arith, least)) log s bytes c.in-Ok.ensures.bytes r.strict none.0 none.1 in
    let ends = segment_missing g.D.Device.trace g.C.Checksum.sum_of c.args.config.now r s c.requires.more c.index.ensures c.requires.done items damage left missing in
    left_finished g.D.Device.trace g.C.Checksum.sum_of c.args.config.now r items damage left c.finish.new.self c.finish.ensures ends.0 ends.1

pub returns-then-not-finds-clause-no_more : goal.returns-then-not-finds-clause-no_more
returns-then-not-finds-clause-no_more g c =
    let r : Rest = c.args.self.now in
    no_more_left (record r { read = r.read + 1 }) c.finish.new.self c.finish.ensures (most_left r)

pub returns-in-Ok-scan_into-clause-fits : goal.returns-in-Ok-scan_into-clause-fits
returns-in-Ok-scan_into-clause-fits g c =
    let r : Rest = c.args.self.now in
    let cfg : Config = c.args.config.now.config in
    let s : Segment = c.index.result.now in
    let ends : HasEnds cfg.segment_size s = subst (HasEnds cfg.segment_size) (sym c.index.ensures) (c.requires.fits.1 r.read s c.requires.more) in
    let places = subst (λ (x : Config). All (λ (m : ScannedRecord). m.place < s.place + x.segment_size) c.scan_into.new.scan.met.items) c.in-Ok.ensures.reads.config c.scan_into.ensures.places in
    let kinds = path_kinds g.C.Checksum.sum_of c.read_slot.new.config.config.segment_size (file_of c.in-Ok.buf) s.slot s.place 20 c.scan_into.new.scan.met.items c.scan_into.new.scan.stop c.in-Ok-scan_into.ensures.passed.0 in
    let q : Rest = record r { read = read_behind (record r { read = r.read + 1 }) c.scan_into.new.scan.ending; met = c.scan_into.new.scan.met; given = 0 } in
    subst (CanGoOn cfg.segment_size) (sym c.keep.ensures.kept) (c.requires.fits.0, c.requires.fits.1, met_given cfg.segment_size s c.scan_into.new.scan.met.items ends.2 places kinds)

pub returns-in-Ok-scan_into-clause-ahead : goal.returns-in-Ok-scan_into-clause-ahead
returns-in-Ok-scan_into-clause-ahead g c = λ items damage left.
    let r : Rest = c.args.self.now in
    let cfg : Config = c.args.config.now.config in
    let log : List ℕ = (state_of (g.D.Device.trace c.args.config.now.device)).log.bytes in
    let s : Segment = c.index.result.now in
    let q : Rest = record r { read = read_behind (record r { read = r.read + 1 }) c.scan_into.new.scan.ending; met = c.scan_into.new.scan.met; given = 0 } in
    let ends : HasEnds cfg.segment_size s = subst (HasEnds cfg.segment_size) (sym c.index.ensures) (c.requires.fits.1 r.read s c.requires.more) in
    let least = cfg.least in
    let bytes : List ℕ = c.in-Ok.buf.buf.items in
    let found : r.strict ≡ true → (mark : ℤ) × IsHeader g.C.Checksum.sum_of (take 20 bytes) (pos s.place) mark = c.finds.ensures.0 c.if-not-finds.false in
    let inside = begins_inside g.C.Checksum.sum_of cfg.segment_size (omega (arith, least)) log s bytes c.in-Ok.ensures.bytes r.strict found
    (next_inside g.D.Device.trace g.C.Checksum.sum_of c.args.config.now r s c.requires.more c.index.ensures c.requires.done items damage left) in
    let there = none_missing g.C.Checksum.sum_of cfg.segment_size (omega (arith, least)) log s bytes c.in-Ok.ensures.bytes r.strict found in
    let same = ap (λ (x : Config). x.segment_size) c.in-Ok.ensures.reads.config in
    let whole = replayed_whole g.C.Checksum.sum_of cfg.segment_size s log c.in-Ok.buf _ same c.in-Ok.ensures.offset c.in-Ok.ensures.bytes (read_there cfg.segment_size log s ends inside) r.end
    c.scan_into.new.scan.met.items c.scan_into.new.scan.stop c.scan_into.new.scan.ending c.in-Ok-scan_into.ensures.passed in
    subst (λ (x : Rest). IsLeft g.D.Device.trace g.C.Checksum.sum_of c.args.config.now x items damage) (sym c.keep.ensures.kept)
    (segment_kept g.D.Device.trace g.C.Checksum.sum_of c.args.config.now r s c.requires.more c.index.ensures c.requires.done items damage left there (scanned_of s c.scan_into.new.scan) refl whole q refl refl refl refl refl refl c.requires.done.1)

pub returns-in-Err-Corruption-clause-ahead : goal.returns-in-Err-Corruption-clause-ahead
returns-in-Err-Corruption-clause-ahead g c = λ items damage left.
    let r : Rest = c.args.self.now in
    let cfg : Config = c.args.config.now.config in
    let log : List ℕ = (state_of (g.D.Device.trace c.args.config.now.device)).log.bytes in
    let s : Segment = c.index.result.now in
    let scan = c.scan_into.new.scan in
    let q : Rest = record r { read = length r.segments.items; met = scan.met; given = 0; damaged = nat_lt (s.place + scan.stop) r.end } in
    let ends : HasEnds cfg.segment_size s = subst (HasEnds cfg.segment_size) (sym c.index.ensures) (c.requires.fits.1 r.read s c.requires.more) in
    let least = cfg.least in
    let bytes : List ℕ = c.in-Ok.buf.buf.items in
    let found : r.strict ≡ true → (mark : ℤ) × IsHeader g.C.Checksum.sum_of (take 20 bytes) (pos s.place) mark = c.finds.ensures.0 c.if-not-finds.false in
    let inside = begins_inside g.C.Checksum.sum_of cfg.segment_size (omega (arith, least)) log s bytes c.in-Ok.ensures.bytes r.strict found
    (next_inside g.D.Device.trace g.C.Checksum.sum_of c.args.config.now r s c.requires.more c.index.ensures c.requires.done items damage left) in
    let there = none_missing g.C.Checksum.sum_of cfg.segment_size (omega (arith, least)) log s bytes c.in-Ok.ensures.bytes r.strict found in
    let same = ap (λ (x : Config). x.segment_size) c.in-Ok.ensures.reads.config in
    let bad = damaged_behind_whole g.C.Checksum.sum_of cfg.segment_size s log c.in-Ok.buf _ same c.in-Ok.ensures.offset c.in-Ok.ensures.bytes (read_there cfg.segment_size log s ends inside) r.end scan (c.in-Err-Corruption.ensures.damaged (rw c.in-Err-Corruption.field-0-is tt)) in
    subst (λ (x : Rest). IsLeft g.D.Device.trace g.C.Checksum.sum_of c.args.config.now x items damage) (sym c.keep_damaged.ensures.kept)
    (segment_damaged g.D.Device.trace g.C.Checksum.sum_of c.args.config.now r s c.requires.more c.index.ensures c.requires.done items damage left there bad.0 q refl refl refl (sym bad.1) refl refl (ap (λ n. nat_lt (s.place + n) r.end) (sym bad.2)))

pub returns-in-Err-Corruption-clause-fits : goal.returns-in-Err-Corruption-clause-fits
returns-in-Err-Corruption-clause-fits g c =
    let r : Rest = c.args.self.now in
    let cfg : Config = c.args.config.now.config in
    let s : Segment = c.index.result.now in
    let scan = c.scan_into.new.scan in
    let ends : HasEnds cfg.segment_size s = subst (HasEnds cfg.segment_size) (sym c.index.ensures) (c.requires.fits.1 r.read s c.requires.more) in
    let places = subst (λ (x : Config). All (λ (m : ScannedRecord). m.place < s.place + x.segment_size) scan.met.items) c.in-Ok.ensures.reads.config c.scan_into.ensures.places in
    let bad = c.in-Err-Corruption.ensures.damaged (rw c.in-Err-Corruption.field-0-is tt) in
    let kinds = subst (λ (ms : List ScannedRecord). All (λ (m : ScannedRecord). NamesKind m.what) ms) bad.1
    (path_kinds g.C.Checksum.sum_of c.read_slot.new.config.config.segment_size (file_of c.in-Ok.buf) s.slot s.place 20 bad.0.met bad.0.next bad.0.path) in
    subst (CanGoOn cfg.segment_size) (sym c.keep_damaged.ensures.kept) (c.requires.fits.0, c.requires.fits.1, met_given cfg.segment_size s scan.met.items ends.2 places kinds)

pub overflow_add-place : goal.overflow_add-place
overflow_add-place g c =
    let cfg : Config = c.args.config.now.config in
    let s : Segment = c.index.result.now in
    let ends : HasEnds cfg.segment_size s = subst (HasEnds cfg.segment_size) (sym c.index.ensures) (c.requires.fits.1 c.args.self.now.read s c.requires.more) in
    let stop : c.scan_into.new.scan.stop ≤ cfg.segment_size = subst (λ (x : Config). c.scan_into.new.scan.stop ≤ x.segment_size) c.in-Ok.ensures.reads.config c.scan_into.ensures.stop in
    let below = ends.2 in
    omega (arith, below, stop)

-- behind a damaged record no more is left than was before its segment was read
pub returns-in-Err-Corruption-clause-no_more : goal.returns-in-Err-Corruption-clause-no_more
returns-in-Err-Corruption-clause-no_more g c =
    let r : Rest = c.args.self.now in
    let scan = c.scan_into.new.scan in
    let b : Bool = nat_lt (c.index.result.now.place + scan.stop) r.end in
    subst (λ (x : Rest). most_left x ≤ most_left r) (sym c.keep_damaged.ensures.kept)
    (few_more (length r.segments.items) r.read (length scan.met.items) (length r.met.items - r.given) b r.damaged c.requires.more (search rules))

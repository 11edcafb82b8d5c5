-- Where bytes begin with a record of this number, the header at their front announces it.
use Rattle.std.proofs.Common.{◌++◌, drop, arith}
use Rattle.sled_oracle.proofs.Walks.FoundLemmas.{header_in_front, body_inside, record_there, found_there}
use Rattle.sled_oracle.proofs.foreign.readers.record_len.Goals as goal

pub returns-in-Err-Corruption-clause-found : goal.returns-in-Err-Corruption-clause-found
returns-in-Err-Corruption-clause-found g c = λ len b.
    let none = rw c.in-Err-Corruption.field-0-is at c.in-Err-Corruption.ensures.corrupt in
    none tt b.is.header (b.body ++ drop len c.args.bytes.now) _ (header_in_front g.C.Checksum.sum_of c.args.number.0 c.args.bytes.now len b) tt b.is.spelled

pub returns-then-len-rest-clause-found : goal.returns-then-len-rest-clause-found
returns-then-len-rest-clause-found g c = λ len b.
    let read = c.in-Ok.ensures.ok in
    let inside = body_inside g.C.Checksum.sum_of c.args.number.0 c.args.bytes.now read.0 c.deserialize.new.buf.now c.in-Ok.header read.1 read.2 len b in
    absurd (omega (arith, inside, c.if-len-rest.true))

pub returns-then-is_there-clause-found : goal.returns-then-is_there-clause-found
returns-then-is_there-clause-found g c =
    let read = c.in-Ok.ensures.ok in
    let h = c.in-Ok.header in
    let there = c.in_ok-is_there.ensures.decided.0 c.if-is_there.true in
    found_there g.C.Checksum.sum_of c.args.number.0 c.args.bytes.now read.0 c.deserialize.new.buf.now h read.1 read.2 h.kind h.pid _ (omega (arith, c.if-len-rest.false)) there

pub returns-clause-found : goal.returns-clause-found
returns-clause-found g c = λ len b.
    let read = c.in-Ok.ensures.ok in
    let there = c.in_ok-is_there.ensures.decided.1 (record_there g.C.Checksum.sum_of c.args.number.0 c.args.bytes.now read.0 c.deserialize.new.buf.now c.in-Ok.header read.1 read.2 len b) in
    let other = c.if-is_there.false in
    cc

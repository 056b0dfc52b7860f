use Rattle.std.proofs.Common.{take_all, get_or, ◌++◌, ◌∷◌, [], take, append-nil, append_assoc, sym}
use Rattle.std.proofs.lemmas.List.{take_more}
use Rattle.cad_office_socket.proofs.buffering.add_all.Goals as goal

pub loop-byte-init : goal.loop-byte-init
loop-byte-init c = λ text stands. rw (append-nil text) stands

pub loop-byte-preserved : goal.loop-byte-preserved
loop-byte-preserved c = λ text stands.
    let i = c.loop-byte.byte-index in
    let xs = c.args.bytes.now in
    rw (take_more xs i 0 c.loop-byte-test.true, sym (append_assoc text (take i xs) (get_or xs i 0 ∷ []))) (c.add.ensures (text ++ take i xs) (c.loop-byte.invariant text stands))

pub returns : goal.returns
returns c = λ text stands. rw (take_all c.loop-byte.byte-index c.args.bytes.now c.loop-byte-test.false) at (c.loop-byte.invariant text stands)

use Rattle.std.proofs.Common.{◌≡◌, ◌%◌, length, ap, ◌∙◌, arith, rules}
use Rattle.digest.specs.Sha256.{hashed}
use Rattle.digest.proofs.Paddings.{blocks-fit}
use Rattle.digest.proofs.Hashes.{whole, bits, sha256-parts}
use Rattle.digest.proofs.digest_of.Goals as goal

pub hash_blocks-requires : goal.hash_blocks-requires
hash_blocks-requires c =
    let m = c.args.message.now in
    let size : length c.last_bytes-last.result ≡ 128 = search rules in
    omega (arith, blocks-fit (length m % 64) 0 c.count_last_blocks.result (omega arith) (c.count_last_blocks.ensures 0), size)

pub returns : goal.returns
returns c =
    let m = c.args.message.now in
    let last = c.last_bytes-last.result in
    let k = c.count_last_blocks.result in
    c.hash_blocks.ensures
    ∙ ap (hashed k last) (c.hash_blocks-after_whole.ensures ∙ ap (hashed (whole m) m) c.first_hash.ensures)
    ∙ sha256-parts m k (c.count_last_blocks.ensures (bits m)) last c.last_bytes-last.ensures

-- UIDs that are made of digests: a UUID of version 8 (RFC 9562 section 5.8), as a UID (PS3.5 section B.2).
use Rattle.std.specs.Prelude.{ℕ, ◌+◌, ◌*◌, ◌%◌, List, ◌++◌, take, slice_index, set, codes, decimal}
use Rattle.std.specs.Int.{from_be_bytes, w128}

-- an octet with the version, 8, in its high nibble; and one with the variant, 10 in binary, in its two top bits
abbrev pub with_version : ℕ → ℕ
with_version octet = 8 * 16 + octet % 16

abbrev pub with_variant : ℕ → ℕ
with_variant octet = 2 * 64 + octet % 64

-- the 16 octets of the UUID: the first ones of the digest, with the version in octet 6 and the variant in octet 8
abbrev pub uuid_octets : List ℕ → List ℕ
uuid_octets digest =
    let versioned = set (take 16 digest) 6 (with_version (slice_index digest 6)) in
    set versioned 8 (with_variant (slice_index digest 8))

-- the UUID as a number, its first octet the highest
unfoldable pub uuid_of : List ℕ → ℕ
uuid_of digest = from_be_bytes w128 (uuid_octets digest)

-- the UID: `2.25.` and that number in decimal
abbrev pub uid_of_digest : List ℕ → List ℕ
uid_of_digest digest = codes "2.25." ++ decimal (uuid_of digest)

use Rattle.std.proofs.Common.{refl}
use Rattle.ngc_map_picture.proofs.Chunks.{chunk_of}
use Rattle.ngc_map_picture.proofs.chunk.chunk_text.Goals as goal

pub returns : goal.returns
returns c =
    rw (
      c.add_text-5.ensures,
      c.add_text-4.ensures,
      c.add_text-3.ensures,
      c.add_text-2.ensures,
      c.add_text.ensures,
      c.new-text.ensures,
      c.to_be_bytes-size.ensures,
      c.to_be_bytes-check.ensures,
    )
    (chunk_of c.args.kind.now c.args.head.now c.args.body.now _ c.crc.result refl c.crc.ensures)

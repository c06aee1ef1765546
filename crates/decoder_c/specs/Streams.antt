-- What the answers of the calls of streams come to in numbers.
-- Assumes nothing: these are definitions.
use Rattle.y4m_header.specs.ReadCall as header
use Rattle.y4m_frame.specs.ReadCall as frame
use Rattle.decoder_c.specs.declared.streams.Heading.{Heading}
use Rattle.decoder_c.specs.declared.streams.Framed.{Framed}

abbrev pub heading_of : Heading → header.Reading
heading_of n = record { number = n.number; at = n.at; w = n.w; h = n.h; f = n.f; g = n.g; a = n.a; b = n.b; next = n.next }

abbrev pub framed_of : Framed → frame.Reading
framed_of n = record { number = n.number; at = n.at; next = n.next }

pub mod Asked
pub mod Laws
-- the parts of a token's text, as they are read
pub mod Parts
-- the pieces of a token's text, as they are written
pub mod TextParts

-- Maps of positions at work (docs/RULES.md, §12): what the arrays of images, places and columns hold
pub mod Images
-- Laws of images as numbers, of the loops, and of what is moved and put
pub mod ImagesLaws
pub mod ArrayLaws
pub mod WorkLaws

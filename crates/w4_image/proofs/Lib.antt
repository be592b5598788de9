-- Lemmas of the image.
mod PpmLaws
